mod GraphLemmas
mod RaiseLemmas
mod LongestWalks
