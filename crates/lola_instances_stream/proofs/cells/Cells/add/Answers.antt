use Rattle.std.proofs.Common.{◌∙◌, ◌++◌, ◌∷◌, [], List, Option, Some, length, ap, arith}
use Rattle.std.proofs.lemmas.List.{length_push}
use Rattle.lola_instances_one.specs.Holdings.{Holdings}
use Rattle.lola_instances_stream.specs.Cells.{Line, living}
use Rattle.lola_instances_stream.proofs.Taken.{living_more}
use Rattle.lola_instances_stream.proofs.cells.Cells.add.Goals as goal

pub invariant_of-self : goal.invariant_of-self
invariant_of-self c =
    let slot = c.args.slot in
    let mid = c.make_way-self-inside.new.cells.items in
    let e = c.put.ensures.cells in
    let n = ap length e in
    let k = length_push mid (Some slot) in
    let m = ap (λ (cs : List (Option Holdings)). length (living cs)) e in
    let l = ap length (living_more mid slot) in
    let p = length_push (living mid) slot in
    record {
      known = c.put.ensures.known;
      count = omega (arith, c.make_way-self-inside.ensures.count);
      room = omega (arith, c.self.invariant.room, c.make_way-self-inside.ensures.memory, c.put.ensures.memory);
      long = omega (arith, c.self.invariant.long, c.make_way-self-inside.ensures.flags, c.put.ensures.flags);
    }

pub returns-clause-rest : goal.returns-clause-rest
returns-clause-rest c =
    let slot = c.args.slot in
    let mid = c.make_way-self-inside.new.cells.items in
    let items = ap living c.put.ensures.cells ∙ living_more mid slot ∙ ap (λ (ss : List Holdings). ss ++ slot ∷ []) (c.make_way-self-inside.ensures.items ∙ ap (λ (l : Line). l.items) c.self.view_is) in
    let capacity = ap (λ (l : Line). l.capacity) c.self.view_is in
    let kept = c.put.ensures.kept ∙ c.make_way-self-inside.ensures.kept ∙ ap (λ (l : Line). l.is_kept) c.self.view_is in
    λ j. record { items = items j; capacity = capacity j; is_kept = kept j; room = c.put.new.table.room }
