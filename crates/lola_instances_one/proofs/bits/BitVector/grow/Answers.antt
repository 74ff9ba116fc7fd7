use Rattle.std.proofs.Common.{◌+◌, ◌++◌, ◌∷◌, [], ◌∙◌, List, Bool, false, length, ap, arith}
use Rattle.std.proofs.lemmas.List.{append_assoc, length_push, replicate_more}
use Rattle.std.specs.Prelude.{replicate}
use Rattle.lola_instances_one.proofs.bits.BitVector.grow.Goals as goal

pub loop-turn-preserved : goal.loop-turn-preserved
loop-turn-preserved c =
    let old = c.args.self.now in
    let was = c.loop-turn.invariant.bits in
    let e = c.in-Ok.ensures.ok in
    let n = length_push c.loop-turn.self false in
    let m = ap length e in
    record {
      bits = record {
        more = was.more + 1;
        bits = e
            ∙ ap (λ (bs : List Bool). bs ++ false ∷ []) was.bits
            ∙ append_assoc old (replicate was.more false) (false ∷ [])
            ∙ ap (λ (bs : List Bool). old ++ bs) (replicate_more was.more false);
      };
      length = omega (arith, c.loop-turn.invariant.length);
    }
