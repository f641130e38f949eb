-- Granules side by side, and their marks.
use Rattle.std.proofs.Common.{◌≡◌, ℕ, ◌+◌, ◌-◌, List, [], ◌∷◌, ◌++◌, length, take}
use Rattle.std.proofs.Common.{refl, sym, ap, subst, ◌∙◌, arith, length-append}
use Rattle.std.specs.List.{AllZip}
use Rattle.std.proofs.lemmas.Grind.{flat_map-append}
use Rattle.std.proofs.lemmas.List.{append_assoc, append-nil, drop_at, take_at}
use Rattle.pj_value.specs.Columns.{KindedValues}
use Rattle.pj_layout.specs.declared.blob.Mark.{Mark}
use Rattle.pj_layout.specs.Granules.{granule}
use Rattle.pj_layout.specs.Blobs.{blob, marks_from, marks}
use Rattle.pj_layout.specs.GranuleLaws.{MarksGranule}

marks_from-stand : (front : List ℕ) (cs : List KindedValues)
    → AllZip (MarksGranule (front ++ blob cs)) (marks_from (length front) cs) cs
marks_from-stand front [] = tt
marks_from-stand front (c ∷ cs) =
    let bytes = granule c in
    let here : length front + length bytes - length front ≡ length bytes = omega arith in
    let long = length-append front bytes in (
      record {
        stands =
            (λ i. take (here i) (drop_at front (bytes ++ blob cs) (length front) refl i))
            ∙ take_at bytes (blob cs) (length bytes) refl;
        within = omega (arith, length-append front (bytes ++ blob cs), length-append bytes (blob cs));
        rows = refl;
      },
      subst (λ (all : List ℕ). AllZip (MarksGranule all) (marks_from (length front + length bytes) cs) cs)
          (append_assoc front bytes (blob cs))
          (subst (λ n. AllZip (MarksGranule ((front ++ bytes) ++ blob cs)) (marks_from n cs) cs) long
          (marks_from-stand (front ++ bytes) cs)),
    )

pub marks-stand : (cs : List KindedValues) → AllZip (MarksGranule (blob cs)) (marks cs) cs
marks-stand cs = marks_from-stand [] cs

-- one granule more
pub blob-push : (cs : List KindedValues) (c : KindedValues) → blob (cs ++ c ∷ []) ≡ blob cs ++ granule c
blob-push cs c = flat_map-append granule cs (c ∷ []) ∙ ap (λ bs. blob cs ++ bs) (append-nil (granule c))

-- the mark of a granule behind others
abbrev pub mark_of : ℕ → KindedValues → Mark
mark_of here c = record { at = here; size = length (granule c); rows = length c.values }

marks_from-push : (here : ℕ) (cs : List KindedValues) (c : KindedValues)
    → marks_from here (cs ++ c ∷ []) ≡ marks_from here cs ++ mark_of (here + length (blob cs)) c ∷ []
marks_from-push here [] c =
    let there : here ≡ here + 0 = omega arith in ap (λ n. mark_of n c ∷ []) there
marks_from-push here (d ∷ cs) c =
    let there : here + length (granule d) + length (blob cs) ≡ here + length (granule d ++ blob cs) =
    omega (arith, length-append (granule d) (blob cs)) in
    ap (λ ms. mark_of here d ∷ ms) (marks_from-push (here + length (granule d)) cs c
    ∙ ap (λ n. marks_from (here + length (granule d)) cs ++ mark_of n c ∷ []) there)

pub marks-push : (cs : List KindedValues) (c : KindedValues)
    → marks (cs ++ c ∷ []) ≡ marks cs ++ mark_of (length (blob cs)) c ∷ []
marks-push cs c =
    let there : 0 + length (blob cs) ≡ length (blob cs) = omega arith in
    marks_from-push 0 cs c ∙ ap (λ n. marks cs ++ mark_of n c ∷ []) there

-- a mark by its fields
pub mark_of-made : (here at size rows : ℕ) (c : KindedValues) → at ≡ here → size ≡ length (granule c)
    → rows ≡ length c.values → mark_of here c ≡ record { at = at; size = size; rows = rows }
mark_of-made here at size rows c e f g = λ i. record { at = sym e i; size = sym f i; rows = sym g i }
