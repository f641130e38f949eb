use Rattle.std.proofs.Common.{ℕ, ◌+◌, List, [], ◌∷◌, ◌++◌, map, take, length, codes}
use Rattle.std.proofs.Common.{Bor, Vec, Global, append_assoc, arith, ap, sym, ◌∙◌}
use Rattle.std.proofs.lemmas.List.{map_push}
use Rattle.std.specs.Fmt.{decimal}
use Rattle.pj_journal.specs.History.{catalog}
use Rattle.pj_expr.specs.Tables.{names}
use Rattle.pj_legal.specs.Texts.{as_line, entry_text, entries_text}
use Rattle.pj_legal.proofs.histories.Histories.{entries_text-more, names-created, names-other}
use Rattle.pj_legal.proofs.history.history_text.Goals as goal
use Rattle.pj_legal.proofs.history.history_text.Goals.{in-Created+in_ok-push-2, in_default}

-- what the references lend
abbrev lent : List (Bor (List ℕ)) → List (List ℕ)
lent tables = map (λ t. t.now) tables

pub entries-preserved : goal.entries-preserved
entries-preserved c =
    let h = c.entries-entries.result.now in
    let sessions = c.as_slice-names.result.now in
    let head : List ℕ = as_line (codes "history " ++ decimal (length h)) in
    let so_far : List ℕ = entries_text sessions [] (take c.entries.at h) in
    record {
      tables =
          elim c.match-entry.branch [
            | in-Created+in_ok-push-2 w ↦
                ap (λ (v : Vec (Bor (List ℕ)) Global). lent v.items) w.tables-is
                ∙ ap lent w.in_ok-push-2.ensures.items
                ∙ map_push (λ (t : Bor (List ℕ)). t.now) c.entries.tables.items _
                ∙ ap (λ (ns : List (List ℕ)). ns ++ w.in-Created.table.name ∷ []) c.entries.invariant.tables
                ∙ sym (names-created h c.entries.at c.index-entries-at.result w.in-Created.table
                (omega arith) c.index-entries-at.is w.in-Created.is)
            | in_default w ↦
                ap (λ (v : Vec (Bor (List ℕ)) Global). lent v.items) w.tables-is
                ∙ c.entries.invariant.tables
                ∙ sym (names-other h c.entries.at c.index-entries-at.result
                (omega arith) c.index-entries-at.is w.in_default.not-Created)
          ];
      text =
          c.in_ok-put_entry.ensures
          ∙ ap (λ (ts : List (List ℕ)). c.entries.out.items ++ entry_text sessions
          (c.entries.at + 1) ts c.index-entries-at.result)
          (ap lent c.as_slice.ensures.value ∙ c.entries.invariant.tables)
          ∙ ap (λ (out : List ℕ). out ++ entry_text sessions (c.entries.at + 1)
          (names (catalog (take c.entries.at h))) c.index-entries-at.result)
          c.entries.invariant.text
          ∙ append_assoc head so_far
          (entry_text sessions (c.entries.at + 1)
          (names (catalog (take c.entries.at h))) c.index-entries-at.result)
          ∙ ap (λ (text : List ℕ). head ++ text)
          (sym (entries_text-more sessions h c.entries.at c.index-entries-at.result
          (omega arith) c.index-entries-at.is));
    }
