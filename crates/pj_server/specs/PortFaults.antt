-- How the counts of the port rise in a statement, and in a run of several.
use Rattle.std.specs.Prelude.{◌≡◌, ℕ, ◌+◌, ◌-◌, ◌^◌, ◌≤◌, min, Bool, true, false, List}
use Rattle.std.specs.List.{count_by}
use Rattle.pj_io.specs.Faults.{Rose}
use Rattle.pj_bind.specs.declared.types.Refusal.{Refusal}
use Rattle.pj_bind.specs.declared.types.Refusal.TheVariants as refusals
use Rattle.pj_legal.specs.declared.reply.Reply.{Reply}
use Rattle.pj_legal.specs.declared.reply.Reply.TheVariants as replies
use Rattle.pj_legal.specs.Statements.{Shown}

-- whether a refusal says that the port failed
abbrev pub is_port_refusal : Refusal → Bool
is_port_refusal refusals.StoreFault = true
is_port_refusal refusal = false

-- whether a reply does
abbrev pub is_store_fault : Reply → Bool
is_store_fault (replies.Refused refusal) = is_port_refusal refusal
is_store_fault reply = false

-- how many of the replies do
abbrev pub store_faults : List Shown → ℕ
store_faults replies = count_by (λ shown. is_store_fault shown.reply) replies

-- whether a refusal says that a granule was damaged
abbrev pub is_damage_refusal : Refusal → Bool
is_damage_refusal (refusals.Damaged part source column granule at) = true
is_damage_refusal refusal = false

-- whether a reply does
abbrev pub is_damage : Reply → Bool
is_damage (replies.Refused refusal) = is_damage_refusal refusal
is_damage reply = false

-- how many of the replies do
abbrev pub damages : List Shown → ℕ
damages replies = count_by (λ shown. is_damage shown.reply) replies

-- a count rose by so much at least, or stands at the last u64
abbrev pub RoseBy : ℕ → ℕ → ℕ → Type 0
RoseBy n before now = min (before + n) (2 ^ 64 - 1) ≤ now

-- what a port counts: its faults, and its reads
pub record Counted : Type 0 where
  pub faults : ℕ
  pub reads : ℕ

-- these counts
abbrev pub counted : ℕ → ℕ → Counted
counted faults reads = record { faults = faults; reads = reads }

-- neither count fell; the faults rose where the reply says that the port failed, and else they stayed; and the reads
-- rose where it says that a granule was damaged
pub record IsBlamed (reply : Reply) (before now : Counted) : Type 0 where
  pub later : before.faults ≤ now.faults
  pub failed : is_store_fault reply ≡ true → Rose before.faults now.faults
  pub calm : is_store_fault reply ≡ false → now.faults ≡ before.faults
  pub read_later : before.reads ≤ now.reads
  pub damaged : is_damage reply ≡ true → Rose before.reads now.reads

-- neither count fell; the faults rose as often at least as replies say that the port failed, and where none does they
-- stayed; and the reads rose as often at least as replies say that a granule was damaged
pub record AreBlamed (replies : List Shown) (before now : Counted) : Type 0 where
  pub later : before.faults ≤ now.faults
  pub rose : RoseBy (store_faults replies) before.faults now.faults
  pub calm : store_faults replies ≡ 0 → now.faults ≡ before.faults
  pub read_later : before.reads ≤ now.reads
  pub damaged : RoseBy (damages replies) before.reads now.reads
