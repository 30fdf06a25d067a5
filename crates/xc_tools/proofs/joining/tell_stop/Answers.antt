use Rattle.std.proofs.Common.{inl, inr}
use Rattle.xc_tools.proofs.joining.tell_stop.Goals as goal

pub returns-in-Memory : goal.returns-in-Memory
returns-in-Memory g c = elim c.flush_and_refuse.ensures [
  | inl h ↦ rw c.in-Memory.is (inr (inr (inr (inl (h.0, tt, h.1, h.2)))))
  | inr h ↦ rw c.in-Memory.is (inr (inr (inr (inr (inr (inl (h.0, tt, h.1, h.2)))))))
]
