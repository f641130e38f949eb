-- How the counts of the port rise, statement by statement.
use Rattle.std.proofs.Common.{◌≡◌, ℕ, ◌+◌, ◌≤◌, Bool, true, false, List, [], ◌∷◌, ◌++◌, refl, sym, ap}
use Rattle.std.proofs.Common.{◌∙◌, arith, cond, Result, Ok, Err}
use Rattle.std.proofs.lemmas.List.Sums.{sum_by-append}
use Rattle.std.specs.List.{count_by}
use Rattle.pj_io.specs.Faults.{Rose}
use Rattle.pj_value.specs.Rows.{KindedRows}
use Rattle.pj_bind.specs.declared.types.Refusal.{Refusal}
use Rattle.pj_bind.specs.declared.types.Refusal.TheVariants as refusals
use Rattle.pj_expr.specs.declared.table.Table.{Table}
use Rattle.pj_legal.specs.declared.reply.Reply.{Reply}
use Rattle.pj_legal.specs.declared.reply.Reply.TheVariants as replies
use Rattle.pj_legal.specs.Bodies.{IsBodyRefusal}
use Rattle.pj_legal.specs.Laws.{PortRefusesNoBody}
use Rattle.pj_legal.specs.Statements.{Shown}
use Rattle.pj_part.specs.declared.part.Part.{Part}
use Rattle.pj_exec.specs.declared.fault.SelectFault.{SelectFault}
use Rattle.pj_exec.specs.declared.fault.SelectFault.TheVariants as faults
use Rattle.pj_exec.specs.Causes.{HasPortCause}
use Rattle.pj_server.specs.PortFaults.{is_port_refusal, is_store_fault, store_faults}
use Rattle.pj_server.specs.PortFaults.{is_damage_refusal, is_damage, RoseBy, Counted, IsBlamed, AreBlamed}
use Rattle.pj_server.specs.Refusals.{IsRefusalFor}

-- the port wasn't called
pub IsBlamed-calm : (reply : Reply) (n : Counted) → is_store_fault reply ≡ false → is_damage reply ≡ false
    → IsBlamed reply n n
IsBlamed-calm reply n none whole = record {
  later = omega arith;
  failed = λ is. let no : true ≡ false = sym is ∙ none in cc;
  calm = λ same. refl;
  read_later = omega arith;
  damaged = λ is. let no : true ≡ false = sym is ∙ whole in cc;
}

-- no body is refused since the port failed
pub refusal-calm : PortRefusesNoBody → (tables : List Table) (body : List ℕ) (refusal : Refusal)
    → IsBodyRefusal tables body refusal → is_port_refusal refusal ≡ false
refusal-calm law tables body refusals.StoreFault h = absurd ((law tables body).0 h)
refusal-calm law tables body (refusals.Syntax at) h = refl
refusal-calm law tables body (refusals.Limit limit) h = refl
refusal-calm law tables body (refusals.UnknownTable name) h = refl
refusal-calm law tables body (refusals.TableExists name) h = refl
refusal-calm law tables body (refusals.DuplicateColumn name) h = refl
refusal-calm law tables body (refusals.UnknownIdentifier name) h = refl
refusal-calm law tables body refusals.TypeMismatch h = refl
refusal-calm law tables body refusals.NotAnAggregate h = refl
refusal-calm law tables body refusals.NotBuilt h = refl
refusal-calm law tables body (refusals.Damaged part source column granule at) h = refl
refusal-calm law tables body refusals.NoMemory h = refl

-- nor since a granule is damaged
pub refusal-whole : PortRefusesNoBody → (tables : List Table) (body : List ℕ) (refusal : Refusal)
    → IsBodyRefusal tables body refusal → is_damage_refusal refusal ≡ false
refusal-whole law tables body (refusals.Damaged part source column granule at) h =
    absurd ((law tables body).1 part source column granule at h)
refusal-whole law tables body refusals.StoreFault h = refl
refusal-whole law tables body (refusals.Syntax at) h = refl
refusal-whole law tables body (refusals.Limit limit) h = refl
refusal-whole law tables body (refusals.UnknownTable name) h = refl
refusal-whole law tables body (refusals.TableExists name) h = refl
refusal-whole law tables body (refusals.DuplicateColumn name) h = refl
refusal-whole law tables body (refusals.UnknownIdentifier name) h = refl
refusal-whole law tables body refusals.TypeMismatch h = refl
refusal-whole law tables body refusals.NotAnAggregate h = refl
refusal-whole law tables body refusals.NotBuilt h = refl
refusal-whole law tables body refusals.NoMemory h = refl

-- ---- a SELECT over parts

-- it has rows
pub rows_blamed : {T : Type 0} (out : KindedRows) (v : T) (r : Result T SelectFault) (before now : Counted)
    → r ≡ Ok v → HasPortCause before.faults now.faults r → before.reads ≤ now.reads
    → IsBlamed (replies.Rows out) before now
rows_blamed out v r before now ok h later = record {
  later = h.later;
  failed = λ is. let no : false ≡ true = is in cc;
  calm = λ same. h.calm (λ err. let both = sym ok ∙ err in cc);
  read_later = later;
  damaged = λ is. let no : false ≡ true = is in cc;
}

-- it is refused
pub select_blamed : {B T : Type 0} (ps : List (Part B)) (fault : SelectFault) (refusal : Refusal)
    (r : Result T SelectFault) (before now : Counted) → r ≡ Err fault → IsRefusalFor ps fault refusal
    → HasPortCause before.faults now.faults r → before.reads ≤ now.reads
    → ((part column granule at : ℕ) → r ≡ Err (faults.Damaged part column granule at)
    → Rose before.reads now.reads)
    → IsBlamed (replies.Refused refusal) before now
select_blamed ps faults.StoreFault refusal r before now err is h later rose = record {
  later = h.later;
  failed = λ tells. h.failed err;
  calm = λ none. let no : true ≡ false = ap is_port_refusal (sym is) ∙ none in cc;
  read_later = later;
  damaged = λ tells. let no : false ≡ true = ap is_damage_refusal (sym is) ∙ tells in cc;
}
select_blamed ps faults.NoMemory refusal r before now err is h later rose = record {
  later = h.later;
  failed = λ tells. let no : false ≡ true = ap is_port_refusal (sym is) ∙ tells in cc;
  calm = λ none. h.calm (λ other. let both = sym err ∙ other in cc);
  read_later = later;
  damaged = λ tells. let no : false ≡ true = ap is_damage_refusal (sym is) ∙ tells in cc;
}
select_blamed ps (faults.Damaged part column granule at) refusal r before now err is h later rose = record {
  later = h.later;
  failed = λ tells. let no : false ≡ true = ap is_port_refusal (sym is.2) ∙ tells in cc;
  calm = λ none. h.calm (λ other. let both = sym err ∙ other in cc);
  read_later = later;
  damaged = λ tells. rose part column granule at err;
}

-- ---- one statement after the other

pub AreBlamed-none : (n : Counted) → AreBlamed [] n n
AreBlamed-none n = record {
  later = omega arith;
  rose = omega arith;
  calm = λ none. refl;
  read_later = omega arith;
  damaged = omega arith;
}

-- how many replies a test lets through, once there is one more
count-push : (test : Reply → Bool) (rs : List Shown) (shown : Shown)
    → count_by (λ s. test s.reply) (rs ++ shown ∷ []) ≡ count_by (λ s. test s.reply) rs + cond (test shown.reply) 1 0
count-push test rs shown =
    omega (arith, sum_by-append (λ (s : Shown). cond (test s.reply) 1 0) rs (shown ∷ []))

-- a count that rose as often as replies say so rises once more where one more does
rose_more : (test : Reply → Bool) (rs : List Shown) (shown : Shown) (was between now : ℕ) (b : Bool)
    → test shown.reply ≡ b → RoseBy (count_by (λ s. test s.reply) rs) was between → between ≤ now
    → (b ≡ true → Rose between now) → RoseBy (count_by (λ s. test s.reply) (rs ++ shown ∷ [])) was now
rose_more test rs shown was between now true is many later one =
    let count : count_by (λ s. test s.reply) (rs ++ shown ∷ []) ≡ count_by (λ s. test s.reply) rs + 1 =
    count-push test rs shown ∙ ap (λ b. count_by (λ s. test s.reply) rs + cond b 1 0) is in
    rw count (omega (arith, many, later, one refl))
rose_more test rs shown was between now false is many later one =
    let count : count_by (λ s. test s.reply) (rs ++ shown ∷ []) ≡ count_by (λ s. test s.reply) rs + 0 =
    count-push test rs shown ∙ ap (λ b. count_by (λ s. test s.reply) rs + cond b 1 0) is in
    rw count (omega (arith, many, later))

-- and where none does it stays
calm_more : (rs : List Shown) (shown : Shown) (was between now : Counted) (b : Bool) → is_store_fault shown.reply ≡ b
    → AreBlamed rs was between → IsBlamed shown.reply between now → store_faults (rs ++ shown ∷ []) ≡ 0
    → now.faults ≡ was.faults
calm_more rs shown was between now true is many one none =
    absurd (omega (
      arith,
      count-push is_store_fault rs shown
          ∙ ap (λ b. store_faults rs + cond b 1 0) is,
      none,
    ))
calm_more rs shown was between now false is many one none =
    one.calm is ∙ many.calm (omega (arith, count-push is_store_fault rs shown, none))

pub AreBlamed-more : (rs : List Shown) (shown : Shown) (was between now : Counted) → AreBlamed rs was between
    → IsBlamed shown.reply between now → AreBlamed (rs ++ shown ∷ []) was now
AreBlamed-more rs shown was between now many one = record {
  later = omega (arith, many.later, one.later);
  rose = rose_more is_store_fault rs shown was.faults between.faults now.faults (is_store_fault shown.reply) refl
      many.rose one.later one.failed;
  calm = calm_more rs shown was between now (is_store_fault shown.reply) refl many one;
  read_later = omega (arith, many.read_later, one.read_later);
  damaged = rose_more is_damage rs shown was.reads between.reads now.reads (is_damage shown.reply) refl
      many.damaged one.read_later one.damaged;
}
