mod Forks
