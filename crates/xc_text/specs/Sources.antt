-- What a source gave, in the pieces that its reads gave it in.
-- Public contracts rest on this file: readers must believe it.
use Rattle.std.specs.Prelude.{◌≡◌, ℕ, ◌<◌, List, [], ◌∷◌, ◌++◌, Option, IfSome, length, All, flat_map}
use Rattle.std.specs.Io.KnownBytes.{Consumes}

-- The lines, or other pieces of text, that were given so far, in order.
pub record GivenLines : Type 0 where
  pub lines : List (List ℕ)

-- A source: how many of its reads failed, up to the counter's last value; at most how many bytes it may still give; the
-- bytes that it will give, if they are known; and what each read gave so far, in order, nothing at the end.
pub record SourceState : Type 0 where
  pub failures : ℕ
  pub limit : ℕ
  pub rest : Option (List ℕ)
  pub given : List (List ℕ)

-- Reads gave these bytes, each of them some; and if the source's bytes were known, these were the first.
pub record Gave (old new : SourceState) (bytes : List ℕ) : Type 0 where
  pub told : Consumes old.rest new.rest bytes
  pub pieces : List (List ℕ)
  pub some : All (λ piece. 0 < length piece) pieces
  pub added : new.given ≡ old.given ++ pieces
  pub whole : flat_map (λ piece. piece) pieces ≡ bytes

-- Reads gave these bytes, none failed, and then one gave nothing; and if its bytes were known, these were all.
pub record GaveAll (old new : SourceState) (bytes : List ℕ) : Type 0 where
  pub no_failure : new.failures ≡ old.failures
  pub told : IfSome old.rest (λ rest. rest ≡ bytes)
  pub before : SourceState
  pub gave : Gave old before bytes
  pub ended : new.given ≡ before.given ++ [] ∷ []
