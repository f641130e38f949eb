-- What the definitions say of histories that are written out.
use Rattle.std.proofs.Common.{◌≡◌, ℕ, ◌<◌, Bool, List, [], ◌∷◌, length, Option, Some, None, refl}
use Rattle.std.proofs.Common.{sym, ap, ◌∙◌, inl, inr, arith}
use Rattle.std.proofs.lemmas.Option.{none-some, same_Some}
use Rattle.pj_journal.specs.Moves.{Move}
use Rattle.pj_bind.specs.declared.types.Bound.{Bound}
use Rattle.pj_legal.specs.declared.reply.Reply.TheVariants as replies
use Rattle.pj_journal.specs.declared.entry.Actor.TheVariants.{Session, Worker}
use Rattle.pj_journal.specs.declared.entry.What.{What}
use Rattle.pj_journal.specs.declared.entry.What.TheVariants.{Created, Looked, Begun, Inserted}
use Rattle.pj_journal.specs.declared.entry.Entry.{Entry}
use Rattle.pj_bind.specs.declared.types.Bound.TheVariants as bounds
use Rattle.pj_legal.specs.declared.reply.Reply.{Reply}
use Rattle.pj_legal.specs.declared.reply.Reply.TheVariants.{Done}
use Rattle.pj_legal.specs.Statements.{Request, whole, Shown}
use Rattle.pj_legal.specs.Forms.{Course, BoundForm, Form, no_memory, history_full, store_fault}
use Rattle.pj_legal.specs.Shares.{SessionShare}
use Rattle.pj_legal.specs.Full.{KeepsLimit}
use Rattle.server_tests.specs.Examples.{Given, entry, inserting, inserted, done_at, one_line}

create_form : (told : Bool) (given : Given)
    → Form told (whole 1 0 given.create) (record {
      moves = record { place = []; entry = entry (Session 0) 1 (Created given.table) } ∷ [];
      reply = Some Done;
    })
create_form told given =
    inr (inl (record {
      place = [];
      bound = bounds.Create given.table;
      binds = given.creates;
      form = (refl, refl);
    }))

-- the INSERT is done, though another entry stands between its two
insert_form : (told : Bool) (given : Given) (between : Entry) (shown : Option ℕ)
    → Form told (record { line = 2; session = 0; body = given.insert; shown = shown }) (record {
      moves =
          record {
            place = entry (Session 0) 1 (Created given.table) ∷ [];
            entry = entry (Session 0) 2 (Begun 0);
          }
          ∷ record {
            place =
                entry (Session 0) 1 (Created given.table) ∷ entry (Session 0) 2 (Begun 0) ∷ between ∷ [];
            entry = entry (Session 0) 2 (Inserted 0 1 given.rows);
          }
          ∷ [];
      reply = Some Done;
    })
insert_form told given between shown =
    inr (inl (record {
      place = entry (Session 0) 1 (Created given.table) ∷ [];
      bound = bounds.Insert 0 given.rows;
      binds = given.inserts;
      form = (
        entry (Session 0) 1 (Created given.table) ∷ entry (Session 0) 2 (Begun 0) ∷ between ∷ [],
        1,
        refl,
        refl,
      );
    }))

pub another_session : (told : Bool) (given : Given)
    → SessionShare told 0 (inserting given (Some 4)) (inserted given (entry (Session 1) 3 (Looked 0) ∷ []))
    (done_at 1 ∷ done_at 4 ∷ [])
another_session told given = record {
  owned = ((0, omega arith, refl), ((1, omega arith, refl), ((1, omega arith, refl), tt)));
  order = (omega arith, (omega arith, (omega arith, tt)));
  answered = (
    refl,
    create_form told given,
    (refl, insert_form told given (entry (Session 1) 3 (Looked 0)) (Some 4), refl),
  );
}

pub a_worker : (told : Bool) (given : Given)
    → SessionShare told 0 (inserting given (Some 2)) (inserted given (entry (Worker 1) 2 (Begun 0) ∷ []))
    (done_at 1 ∷ done_at 2 ∷ [])
a_worker told given = record {
  owned = ((0, omega arith, refl), ((1, omega arith, refl), ((1, omega arith, refl), tt)));
  order = (omega arith, (omega arith, (omega arith, tt)));
  answered = (
    refl,
    create_form told given,
    (refl, insert_form told given (entry (Worker 1) 2 (Begun 0)) (Some 2), refl),
  );
}

pub never_ends : (told : Bool) (given : Given)
    → SessionShare told 0 (inserting given None)
    (entry (Session 0) 1 (Created given.table) ∷ entry (Session 0) 2 (Begun 0) ∷ []) (done_at 1 ∷ [])
never_ends told given = record {
  owned = ((0, omega arith, refl), ((1, omega arith, refl), tt));
  order = (omega arith, (omega arith, tt));
  answered = (
    refl,
    create_form told given,
    (
      inr (inr (inr (inr (inr (inr (record {
        stopped = inr (inr (
          entry (Session 0) 1 (Created given.table) ∷ [],
          bounds.Insert 0 given.rows,
          Begun 0,
          given.inserts,
          refl,
          refl,
        ));
        reply = refl;
      })))))),
      refl,
    ),
  );
}

-- a bound statement that is done has a reply
done_replies : (told : Bool) (place : List Entry) (request : Request) (bound : Bound) (course : Course)
    → BoundForm told place request bound course → course.reply ≡ None → ⊥
done_replies told place request (bounds.Create table) course form none = none-some Done (sym none ∙ form.1)
done_replies told place request (bounds.Insert table rows) course form none =
    none-some Done (sym none ∙ form.3)
done_replies told place request (bounds.Select table query) course form none =
    none-some (replies.Rows form.0) (sym none ∙ form.4)

-- a statement without a reply has one move at most
left_open : (told : Bool) (request : Request) (a b : Move)
    → Form told request (record { moves = a ∷ b ∷ []; reply = None }) → ⊥
left_open told request a b (inl refused) = none-some (replies.Refused refused.refusal) refused.reply
left_open told request a b (inr (inl done)) = done_replies told done.place request done.bound _ done.form refl
left_open told request a b (inr (inr (inl starved))) = none-some no_memory starved.reply
left_open told request a b (inr (inr (inr (inl out)))) = none-some history_full out.reply
left_open told request a b (inr (inr (inr (inr (inl faulted))))) = none-some store_fault faulted.reply
left_open told request a b (inr (inr (inr (inr (inr (inl damaged)))))) = none-some _ damaged.reply
left_open told request a b (inr (inr (inr (inr (inr (inr left)))))) = elim left.stopped [
  | inl refused ↦ let e = refused.3 in cc
  | inr stops ↦ elim stops [ inl none ↦ cc | inr one ↦ let e = one.5 in cc ]
]

pub never_commits : (told : Bool) (given : Given)
    → SessionShare told 0 (inserting given None) (inserted given []) (done_at 1 ∷ []) → ⊥
never_commits told given share =
    left_open told (record { line = 2; session = 0; body = given.insert; shown = None }) _ _
    share.answered.2.0

apart : (m n : ℕ) → m < n → m ≡ n → ⊥
apart m n less same = omega arith

pub no_reply_at_the_start : (told : Bool) (given : Given)
    → SessionShare told 0 (inserting given (Some 4)) (inserted given []) (done_at 1 ∷ done_at 2 ∷ []) → ⊥
no_reply_at_the_start told given share = apart 2 4 (omega arith) share.answered.2.0

-- what the first of the moves did
abbrev first_what : List Move → Option What
first_what [] = None
first_what (move ∷ more) = Some move.entry.what

-- an INSERT that has only begun isn't done
begun_alone : (told : Bool) (request : Request) (place : List Entry)
    → Form told request (record {
      moves = record { place = place; entry = entry (Session 0) 2 (Begun 0) } ∷ [];
      reply = Some Done;
    })
    → ⊥
begun_alone told request place (inl refused) = let e = refused.reply in cc
begun_alone told request place (inr (inl done)) = by_bound done.place done.bound done.form
  where
    by_bound : (at : List Entry) (bound : Bound)
        → BoundForm told at request bound (record {
          moves = record { place = place; entry = entry (Session 0) 2 (Begun 0) } ∷ [];
          reply = Some Done;
        })
        → ⊥
    by_bound at (bounds.Create table) form = let e = ap first_what form.0 in cc
    by_bound at (bounds.Insert table rows) form = let e = ap length form.2 in omega arith
    by_bound at (bounds.Select table query) form = let e = ap first_what form.3 in cc
begun_alone told request place (inr (inr (inl starved))) = let e = starved.reply in cc
begun_alone told request place (inr (inr (inr (inl out)))) = let e = out.reply in cc
begun_alone told request place (inr (inr (inr (inr (inl faulted))))) = let e = faulted.reply in cc
begun_alone told request place (inr (inr (inr (inr (inr (inl damaged)))))) = let e = damaged.reply in cc
begun_alone told request place (inr (inr (inr (inr (inr (inr left)))))) = none-some Done (sym left.reply)

pub not_ones_own : (told : Bool) (given : Given)
    → SessionShare told 0 (inserting given (Some 2))
    (entry (Session 0) 1 (Created given.table) ∷ entry (Session 0) 2 (Begun 0)
    ∷ entry (Session 1) 2 (Inserted 0 1 given.rows) ∷ [])
    (done_at 1 ∷ done_at 2 ∷ [])
    → ⊥
not_ones_own told given share =
    begun_alone told (record { line = 2; session = 0; body = given.insert; shown = Some 2 })
    (entry (Session 0) 1 (Created given.table) ∷ []) share.answered.2.1

pub not_full : (body : List ℕ)
    → KeepsLimit 1 (one_line body) [] (record { line = 1; session = 0; reply = history_full } ∷ []) → ⊥
not_full body keeps =
    let tells = keeps.tells 0 (omega arith) in
    apart 0 1 (omega arith) (tells.1.only refl).full

pub full : (body : List ℕ) (reply : Reply)
    → KeepsLimit 0 (one_line body) [] (record { line = 1; session = 0; reply = reply } ∷ [])
    → reply ≡ history_full
full body reply keeps =
    let tells = keeps.tells 0 (omega arith) in
    elim (tells.1.always (record { full = refl; last = tt }) tt) [
      | inl is ↦ same_Some _ _ is
      | inr none ↦ absurd (none-some reply (sym none))
    ]
