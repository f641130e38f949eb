use Rattle.std.proofs.Common.{ℕ, None, List, length, sym, subst, ◌∙◌}
use Rattle.std.specs.Prelude.{filter_map}
use Rattle.pj_part.specs.Laid.{Laid, alone, piece_in, copy_of}
use Rattle.pj_part.specs.Formed.{IsFormedLaid}
use Rattle.ports_tests.proofs.PartLemmas.{two_numbers, two_numbers-fits, alone-formed}
use Rattle.ports_tests.proofs.reads.part.Goals as goal

pub returns-clause-formed : goal.returns-clause-formed
returns-clause-formed c =
    let sorted = c.in_ok-sorted.field-0 in
    let none = c.from_vec.ensures ∙ c.new-2.ensures.items in
    let laid : Laid (List ℕ) = alone sorted in (
      two_numbers,
      two_numbers-fits,
      subst (IsFormedLaid length two_numbers)
          (λ i. record {
            base = (sym c.in_ok-new.ensures.ok i).sorted;
            mask = None;
            sides = filter_map (λ side. copy_of (piece_in side).id (piece_in side).sorted) (sym none i);
          })
          (alone-formed length sorted c.in_ok-sorted.ensures.formed),
    )
