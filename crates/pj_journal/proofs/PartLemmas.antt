-- The records of parts go along with the blocks.
use Rattle.std.proofs.Common.{◌≡◌, ℕ, ◌+◌, ◌==◌, if◌then◌else◌, Bool, true, false, List, [], ◌∷◌, ◌++◌}
use Rattle.std.proofs.Common.{length, map, filter, fold, refl, sym, ◌∙◌, ap}
use Rattle.std.specs.List.{flat_map}
use Rattle.std.proofs.lemmas.Grind.{flat_map-append}
use Rattle.std.proofs.lemmas.List.{map-append}
use Rattle.pj_value.specs.declared.value.Value.{Value}
use Rattle.pj_expr.specs.Parts.{PartRow, PartRecord, living}
use Rattle.pj_journal.specs.declared.entry.What.{What}
use Rattle.pj_journal.specs.declared.entry.What.TheVariants.{Created, Refused, Looked, Begun, Inserted}
use Rattle.pj_journal.specs.declared.entry.Entry.{Entry}
use Rattle.pj_journal.specs.History.{Block, blocks_on}
use Rattle.pj_journal.specs.Parts.{fresh, inserted, parts_on, PartsHoldTheRows, PartsAreOfBlocks}

-- all rows of an INSERT are living
living-inserted : (rows : List (List Value))
    → map (λ (r : PartRow). r.row) (filter (λ (r : PartRow). r.living) (map fresh rows)) ≡ rows
living-inserted [] = refl
living-inserted (row ∷ rows) = ap (λ (rs : List (List Value)). row ∷ rs) (living-inserted rows)

-- the records are of these blocks, one each
record AreOf (bs : List Block) (ps : List PartRecord) : Type 0 where
  pub rows : flat_map living ps ≡ flat_map (λ block. block.rows) bs
  pub mins : map (λ part. part.min) ps ≡ map (λ block. block.number) bs
  pub maxs : map (λ part. part.max) ps ≡ map (λ block. block.number) bs

-- one more record for one more block
AreOf-push : (bs : List Block) (ps : List PartRecord) (n block : ℕ) (rows : List (List Value)) → AreOf bs ps
    → AreOf (bs ++ record { number = block; rows = rows } ∷ []) (ps ++ inserted n block rows ∷ [])
AreOf-push bs ps n block rows are =
    let b : Block = record { number = block; rows = rows } in
    let p : PartRecord = inserted n block rows in
    record {
      rows = flat_map-append living ps (p ∷ [])
          ∙ ap (λ (rs : List (List Value)). rs ++ flat_map living (p ∷ [])) are.rows
          ∙ ap (λ (ls : List (List Value)). flat_map (λ (other : Block). other.rows) bs ++ (ls ++ [])) (living-inserted rows)
          ∙ sym (flat_map-append (λ (other : Block). other.rows) bs (b ∷ []));
      mins = map-append (λ (part : PartRecord). part.min) ps (p ∷ [])
          ∙ ap (λ (ns : List ℕ). ns ++ block ∷ []) are.mins
          ∙ sym (map-append (λ (other : Block). other.number) bs (b ∷ []));
      maxs = map-append (λ (part : PartRecord). part.max) ps (p ∷ [])
          ∙ ap (λ (ns : List ℕ). ns ++ block ∷ []) are.maxs
          ∙ sym (map-append (λ (other : Block). other.number) bs (b ∷ []));
    }

-- one more INSERT, of this table or of another
AreOf-inserted : (mine : Bool) (bs : List Block) (ps : List PartRecord) (n block : ℕ) (rows : List (List Value))
    → AreOf bs ps
    → AreOf (if mine then bs ++ record { number = block; rows = rows } ∷ [] else bs)
    (if mine then ps ++ inserted n block rows ∷ [] else ps)
AreOf-inserted true bs ps n block rows are = AreOf-push bs ps n block rows are
AreOf-inserted false bs ps n block rows are = are

-- one more move
AreOf-on : (t : ℕ) (bs : List Block) (ps : List PartRecord) (what : What) → AreOf bs ps
    → AreOf (blocks_on t bs what) (parts_on t ps what)
AreOf-on t bs ps (Created table) are = are
AreOf-on t bs ps Refused are = are
AreOf-on t bs ps (Looked table) are = are
AreOf-on t bs ps (Begun table) are = are
AreOf-on t bs ps (Inserted table block rows) are =
    AreOf-inserted (table == t) bs ps (1 + length ps) block rows.rows are

-- further entries
AreOf-from : (t : ℕ) (h : List Entry) (bs : List Block) (ps : List PartRecord) → AreOf bs ps
    → AreOf (fold (λ (others : List Block) (entry : Entry). blocks_on t others entry.what) bs h)
    (fold (λ (others : List PartRecord) (entry : Entry). parts_on t others entry.what) ps h)
AreOf-from t [] bs ps are = are
AreOf-from t (entry ∷ h) bs ps are =
    AreOf-from t h (blocks_on t bs entry.what) (parts_on t ps entry.what) (AreOf-on t bs ps entry.what are)

-- no entry
AreOf-none : AreOf [] []
AreOf-none = record { rows = refl; mins = refl; maxs = refl }

pub rows-of-parts : PartsHoldTheRows
rows-of-parts h t = (AreOf-from t h [] [] AreOf-none).rows

pub blocks-of-parts : PartsAreOfBlocks
blocks-of-parts h t =
    let are : AreOf (fold (λ (others : List Block) (entry : Entry). blocks_on t others entry.what) [] h)
    (fold (λ (others : List PartRecord) (entry : Entry). parts_on t others entry.what) [] h) =
    AreOf-from t h [] [] AreOf-none in
    (are.mins, are.maxs)
