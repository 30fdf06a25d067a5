use Rattle.std.proofs.Common.{inl, inr, sym}
use Rattle.xc_tools.proofs.joining.tell.Goals as goal

pub returns-in-Ok : goal.returns-in-Ok
returns-in-Ok g c =
    rw (c.in-Ok.is, sym c.deref.ensures.value)
    (elim c.flush_and_refuse.ensures [ inl h ↦ inl (h.1, inl (h.0, h.2)) | inr h ↦ inr h ])

pub returns-in-Err : goal.returns-in-Err
returns-in-Err g c = elim c.flush_and_refuse-in-Err.ensures [ inl h ↦ inl (h.1, inr (h.0, h.2)) | inr h ↦ inr h ]
