use Rattle.std.proofs.Common.{inl, inr, ◌∙◌}
use Rattle.xc_tools.proofs.joining.tell_unread.Goals as goal

pub returns-in-Ok : goal.returns-in-Ok
returns-in-Ok g c = elim c.flush_and_refuse.ensures [
  | inl h ↦ inl (h.1, h.0, inl (rw (c.deref.ensures.value ∙ c.in-Ok.ensures) at h.2))
  | inr h ↦ inr h
]

pub returns-in-Err : goal.returns-in-Err
returns-in-Err g c = elim c.flush_and_refuse-in-Err.ensures [ inl h ↦ inl (h.1, h.0, inr h.2) | inr h ↦ inr h ]
