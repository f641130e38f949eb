use Rattle.std.proofs.Common.{◌≡◌, ℕ, ◌+◌, ◌-◌, List, ◌++◌, rules, length, take, drop, sym}
use Rattle.std.proofs.Common.{ap, ◌∙◌, subst, take_at, take-append-drop, drop_of_length-le}
use Rattle.std.proofs.lemmas.List.{take_rest, drop-drop}
use Rattle.pj_io.proofs.sure.SureSourceSource.take.Goals as goal

-- what was copied is the front of what was left
moved_front : (all copied behind : List ℕ) (at n : ℕ) → copied ≡ take n (take (length all - at) (drop at all))
    → length copied ≡ n
    → drop at all ≡ take n (copied ++ behind) ++ drop (at + n) all
moved_front all copied behind at n e len =
    let front = sym (ap (take n) (take_rest all at)) ∙ sym e ∙ sym (take_at copied behind n len) in
    sym (take-append-drop n (drop at all)) ∙ ap (λ l. l ++ drop n (drop at all)) front
    ∙ ap (λ l. take n (copied ++ behind) ++ l) (drop-drop n at all)

pub returns-clause-bytes : goal.returns-clause-bytes
returns-clause-bytes c =
    let all = c.self.inside.bytes.items in
    let at = c.self.inside.at in
    let n = c.min-count.result in
    let copied : c.copy_from_slice.new.self ≡ take n (take (length all - at) (drop at all)) =
    subst (λ l. c.copy_from_slice.new.self ≡ take n (take (length l - at) (drop at l))) c.deref.ensures.value
    c.copy_from_slice.ensures.after in (
      sym c.self.view_is ∙ moved_front all c.copy_from_slice.new.self _ at n copied (search rules),
      λ none room. drop_of_length-le all (search rules),
    )
