use Rattle.std.proofs.Common.{append_assoc}
use Rattle.pj_legal.specs.Texts.{entry_text}
use Rattle.pj_legal.proofs.history.put_entry.Goals as goal

pub returns : goal.returns
unfolding entry_text
returns c =
    rw (
      c.in_ok-push-4.ensures.items,
      c.in_ok-put_what.ensures,
      c.in_ok-push-3.ensures.items,
      c.in_ok-put_number-2.ensures,
      c.in_ok-push-2.ensures.items,
      c.in_ok-put_actor.ensures,
      c.in_ok-push.ensures.items,
      c.in_ok-put_number.ensures,
    ) (simp append_assoc)
