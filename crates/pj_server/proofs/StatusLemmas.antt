-- What a status says of how the call ended.
use Rattle.std.proofs.Common.{◌≡◌, ℕ, ◌+◌, ◌<◌, ◌≤◌, ◌⊎◌, Bool, List, [], ◌∷◌, ◌++◌, length, Option, Some}
use Rattle.std.proofs.Common.{None, refl, ap, subst, ◌∙◌, inl, inr, append-nil, lit<, arith}
use Rattle.std.specs.Prelude.{Contains}
use Rattle.std.specs.Io.KnownBytes.{Consumes, IsAtEnd}
use Rattle.std.proofs.lemmas.List.{length-append}
use Rattle.pj_script.specs.declared.types.ScriptMode.TheVariants.{Play}
use Rattle.pj_script.specs.declared.types.Script.{Script}
use Rattle.pj_script.specs.Lines.{IsScript, IsBadLine}
use Rattle.pj_script.specs.LineLaws.{NoScriptWithABadLine}
use Rattle.pj_journal.specs.declared.entry.Entry.{Entry}
use Rattle.pj_server.specs.declared.ending.End.{End}
use Rattle.pj_server.specs.declared.ending.End.TheVariants.{Usage, SourceFailed, TooLarge, BadLine}
use Rattle.pj_server.specs.declared.ending.End.TheVariants.{SinkFailed, NoMemory, Finished}
use Rattle.pj_server.specs.Status.{status_of}
use Rattle.pj_server.specs.PortFaults.{Counted}
use Rattle.pj_server.specs.Played.{script_bytes, EndsSo, Reads, NeverRuns}

-- no other status
pub statuses : (end : End) → Contains (0 ∷ 2 ∷ 3 ∷ 4 ∷ 5 ∷ 6 ∷ 7 ∷ []) (status_of end)
statuses Finished = (0, lit< tt, refl)
statuses Usage = (1, lit< tt, refl)
statuses (BadLine line) = (2, lit< tt, refl)
statuses SourceFailed = (3, lit< tt, refl)
statuses SinkFailed = (4, lit< tt, refl)
statuses NoMemory = (5, lit< tt, refl)
statuses TooLarge = (6, lit< tt, refl)

-- a source that told its bytes had those that were read to its end
all_read : (bytes found : List ℕ) (rest : Option (List ℕ)) → Consumes (Some bytes) rest found → IsAtEnd rest
    → bytes ≡ found
all_read bytes found None c e = absurd c
all_read bytes found (Some more) c e = c ∙ ap (λ xs. found ++ xs) e ∙ append-nil found

too_long : (bytes found : List ℕ) (rest : Option (List ℕ)) → Consumes (Some bytes) rest found
    → length found ≡ script_bytes + 1 → length bytes ≤ script_bytes → ⊥
too_long bytes found None c long few = absurd c
too_long bytes found (Some more) c long few = absurd (omega (arith, ap length c, length-append found more))

-- a sink whose count of faults rose has failed
pub sink_blamed : (end : End) (before after : ℕ) → ((end ≡ SinkFailed → ⊥) → after ≡ before) → before < after
    → status_of end ≡ 5
sink_blamed SinkFailed before after calm rose = refl
sink_blamed Finished before after calm rose = absurd (omega (arith, rose, calm (λ e. cc)))
sink_blamed Usage before after calm rose = absurd (omega (arith, rose, calm (λ e. cc)))
sink_blamed (BadLine line) before after calm rose = absurd (omega (arith, rose, calm (λ e. cc)))
sink_blamed SourceFailed before after calm rose = absurd (omega (arith, rose, calm (λ e. cc)))
sink_blamed NoMemory before after calm rose = absurd (omega (arith, rose, calm (λ e. cc)))
sink_blamed TooLarge before after calm rose = absurd (omega (arith, rose, calm (λ e. cc)))

-- a source whose count of faults rose has failed
pub source_blamed : (end : End) (before after : ℕ) → ((end ≡ SourceFailed → ⊥) → after ≡ before)
    → before < after
    → status_of end ≡ 4
source_blamed SourceFailed before after calm rose = refl
source_blamed Finished before after calm rose = absurd (omega (arith, rose, calm (λ e. cc)))
source_blamed Usage before after calm rose = absurd (omega (arith, rose, calm (λ e. cc)))
source_blamed (BadLine line) before after calm rose = absurd (omega (arith, rose, calm (λ e. cc)))
source_blamed SinkFailed before after calm rose = absurd (omega (arith, rose, calm (λ e. cc)))
source_blamed NoMemory before after calm rose = absurd (omega (arith, rose, calm (λ e. cc)))
source_blamed TooLarge before after calm rose = absurd (omega (arith, rose, calm (λ e. cc)))

-- a script of the grammar is run to its end, or the call is out of memory
pub completes : NoScriptWithABadLine
    → (end : End) (told : Bool) (wish : Option Bool) (left rest : Option (List ℕ)) (h : List Entry)
    (a b : Option (List ℕ)) (was now : Counted)
    → EndsSo end told wish left rest h a b was now
    → (end ≡ SourceFailed → ⊥) → (end ≡ SinkFailed → ⊥) → (bytes : List ℕ) (script : Script)
    → left ≡ Some bytes → length bytes ≤ script_bytes → IsScript Play bytes script → (wish ≡ None → ⊥)
    → (status_of end ≡ 0) ⊎ (status_of end ≡ 6)
completes law Usage told wish left rest h a b was now ends source sink bytes script known few spelled taken =
    absurd (taken ends.0)
completes law SourceFailed told wish left rest h a b was now ends source sink bytes script known few spelled taken =
    absurd (source refl)
completes law TooLarge told wish left rest h a b was now ends source sink bytes script known few spelled taken =
    absurd (too_long bytes ends.1.0 rest (subst (λ l. Consumes l rest ends.1.0) known ends.1.2) ends.1.1 few)
completes law (BadLine line) told wish left rest h a b was now ends source sink bytes script known few spelled taken =
    let same =
    all_read bytes ends.bytes rest
    (subst (λ l. Consumes l rest ends.bytes) known ends.read.consumed) ends.read.at_end in
    absurd (law Play ends.bytes script line
    (subst (λ bs. IsScript Play bs script) same spelled) ends.run.bad)
completes law SinkFailed told wish left rest h a b was now ends source sink bytes script known few spelled taken =
    absurd (sink refl)
completes law NoMemory told wish left rest h a b was now ends source sink bytes script known few spelled taken = inr refl
completes law Finished told wish left rest h a b was now ends source sink bytes script known few spelled taken = inl refl

-- a bad line is told, or the call is out of memory
pub tells_bad_line : NoScriptWithABadLine
    → (end : End) (told : Bool) (wish : Option Bool) (left rest : Option (List ℕ)) (h : List Entry)
    (a b : Option (List ℕ)) (was now : Counted)
    → EndsSo end told wish left rest h a b was now
    → (end ≡ SourceFailed → ⊥) → (end ≡ SinkFailed → ⊥) → (bytes : List ℕ) (line : ℕ)
    → left ≡ Some bytes → length bytes ≤ script_bytes → IsBadLine Play bytes line → (wish ≡ None → ⊥)
    → (status_of end ≡ 3) ⊎ (status_of end ≡ 6)
tells_bad_line law Usage told wish left rest h a b was now ends source sink bytes line known few bad taken =
    absurd (taken ends.0)
tells_bad_line law SourceFailed told wish left rest h a b was now ends source sink bytes line known few bad taken =
    absurd (source refl)
tells_bad_line law TooLarge told wish left rest h a b was now ends source sink bytes line known few bad taken =
    absurd (too_long bytes ends.1.0 rest (subst (λ l. Consumes l rest ends.1.0) known ends.1.2) ends.1.1 few)
tells_bad_line law (BadLine first) told wish left rest h a b was now ends source sink bytes line known few bad taken = inl
    refl
tells_bad_line law SinkFailed told wish left rest h a b was now ends source sink bytes line known few bad taken =
    absurd (sink refl)
tells_bad_line law NoMemory told wish left rest h a b was now ends source sink bytes line known few bad taken = inr refl
tells_bad_line law Finished told wish left rest h a b was now ends source sink bytes line known few bad taken =
    let same =
    all_read bytes ends.bytes rest
    (subst (λ l. Consumes l rest ends.bytes) known ends.read.consumed) ends.read.at_end in
    absurd (law Play ends.bytes ends.run.script line ends.run.spelled
    (subst (λ bs. IsBadLine Play bs line) same bad))

-- status 3 has the bad line that was told
pub read_bad_line : (end : End) (told : Bool) (wish : Option Bool) (left rest : Option (List ℕ)) (h : List Entry)
    (a b : Option (List ℕ)) (was now : Counted)
    → EndsSo end told wish left rest h a b was now → status_of end ≡ 3
    → (line : ℕ) × (end ≡ BadLine line) × Reads (BadLine line) told wish left rest h a b was now
read_bad_line (BadLine line) told wish left rest h a b was now ends is = (line, refl, ends)
read_bad_line Usage told wish left rest h a b was now ends is = let bad : 2 ≡ 3 = is in absurd (omega (arith, bad))
read_bad_line SourceFailed told wish left rest h a b was now ends is = let bad : 4 ≡ 3 = is in absurd (omega (arith, bad))
read_bad_line TooLarge told wish left rest h a b was now ends is = let bad : 7 ≡ 3 = is in absurd (omega (arith, bad))
read_bad_line SinkFailed told wish left rest h a b was now ends is = let bad : 5 ≡ 3 = is in absurd (omega (arith, bad))
read_bad_line NoMemory told wish left rest h a b was now ends is = let bad : 6 ≡ 3 = is in absurd (omega (arith, bad))
read_bad_line Finished told wish left rest h a b was now ends is = let bad : 0 ≡ 3 = is in absurd (omega (arith, bad))

-- the others are none of these
none_of : (n : ℕ) → (n ≡ 2) ⊎ (n ≡ 3) ⊎ (n ≡ 4) ⊎ (n ≡ 7) → (n ≡ 2 → ⊥) × (n ≡ 3 → ⊥) × (n ≡ 4 → ⊥) × (n ≡ 7 → ⊥) → ⊥
none_of n (inl is) others = others.0 is
none_of n (inr (inl is)) others = others.1 is
none_of n (inr (inr (inl is))) others = others.2 is
none_of n (inr (inr (inr is))) others = others.3 is

-- with these statuses nothing was run
pub never_runs : (end : End)
    → (status_of end ≡ 2) ⊎ (status_of end ≡ 3) ⊎ (status_of end ≡ 4) ⊎ (status_of end ≡ 7) → NeverRuns end
never_runs Usage which = tt
never_runs (BadLine line) which = tt
never_runs SourceFailed which = tt
never_runs TooLarge which = tt
never_runs SinkFailed which = absurd (none_of 5 which
    ((λ is. omega (arith, is)), (λ is. omega (arith, is)), (λ is. omega (arith, is)), (λ is. omega (arith, is))))
never_runs NoMemory which = absurd (none_of 6 which
    ((λ is. omega (arith, is)), (λ is. omega (arith, is)), (λ is. omega (arith, is)), (λ is. omega (arith, is))))
never_runs Finished which = absurd (none_of 0 which
    ((λ is. omega (arith, is)), (λ is. omega (arith, is)), (λ is. omega (arith, is)), (λ is. omega (arith, is))))
