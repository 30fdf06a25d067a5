-- What a write to an output that holds bytes back does.
-- Public contracts rest on this file: readers must believe it.
use Rattle.std.specs.Prelude.{ℕ, ◌≡◌, ◌<◌, ◌≤◌, ◌+◌, ◌-◌, ◌⊎◌, List, [], Option, Result, MatchResult, IfOk, IsErr}
use Rattle.std.specs.Prelude.{false, IsTrue, length, min, take}
use Rattle.std.specs.Io.KnownBytes.{append_known, WriteAppends}
use Rattle.xc_text.specs.Calls.{counted, is_failed_write}
use Rattle.xc_streams.specs.Streams.{IsLittle, answered, early, ends_line, is_failure, passed_of}
use Rattle.xc_streams.specs.declared.outgoing.Outgoing.{Outgoing}
use Rattle.xc_streams.specs.declared.system.SystemWriter.{Ghosts}
use Rattle.xc_streams.specs.declared.system.Answer.{Answer}
use Rattle.xc_streams.specs.declared.system.Answer.TheVariants.{Failed, Part, Whole}

-- the bytes that were passed on or are held back, where they are known
abbrev pub known_bytes : {W : Type 0} {G : Ghosts W} → Outgoing W G → Option (List ℕ)
known_bytes {G = G} s = append_known (G.contents s.writer) s.held

-- These bytes were taken without a call. Or by one, which didn't fail, where what was held and they fill the room, or a
-- line ends and all that is at least `early`; if the call took all that it was given, nothing is held back any more.
abbrev pub HeldOrPassed : {W : Type 0} {G : Ghosts W} → Outgoing W G → Outgoing W G → List ℕ → Type 0
HeldOrPassed {G = G} old new bs = let all = length old.held + length bs in (new.writer ≡ old.writer)
    ⊎ ((a : Answer) × (is_failure a ≡ false) × (G.asked new.writer ≡ answered a (G.asked old.writer))
    × (a ≡ Whole → new.held ≡ [])
    × (all < 65536 → IsTrue (ends_line bs) × (early old.by_line old.passed ≤ all)))

-- What a write of a text did: the bytes that the result counts were taken, as many as there was room for, and little is
-- held back after a line's end. After a failure the system isn't called.
pub record DidWrite {W E : Type 0} {G : Ghosts W} (old new : Outgoing W G) (r : Result ℕ E) (bs : List ℕ) : Type 0 where
  pub bound : IfOk r (λ n. n ≡ min (length bs) (65536 - length old.held))
  pub failed : (new.failed ≡ is_failed_write r bs) × (new.failures ≡ counted (is_failed_write r bs) old.failures)
  pub bytes : WriteAppends (known_bytes old) (known_bytes new) r bs
  pub asked : old.failures ≡ 0 → MatchResult r (λ n. HeldOrPassed old new (take n bs))
      (λ _. G.asked new.writer ≡ answered Failed (G.asked old.writer))
  pub closed : 0 < old.failures → IsErr r × (new.writer ≡ old.writer)
  pub little : IfOk r (λ n. IsTrue (ends_line (take n bs))
      → ((G.asked new.writer).last ≡ Part) ⊎ IsLittle new.by_line new.passed (length new.held))
  pub still : (new.by_line ≡ old.by_line) × (new.flushes.count ≡ old.flushes.count)
  pub passed : MatchResult r (λ n. new.passed ≡ passed_of old.passed (length old.held + n) (length new.held))
      (λ _. new.passed ≡ passed_of old.passed (length old.held) (length new.held))
