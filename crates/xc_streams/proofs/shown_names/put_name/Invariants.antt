use Rattle.std.proofs.Common.{◌≡◌, ◌++◌, take}
use Rattle.std.specs.Prelude.{flat_map}
use Rattle.xc_streams.specs.ShownNames.{shown_byte}
use Rattle.xc_streams.proofs.shown_names.put_name.Given as goal

-- the bytes so far stand behind what the text had
abbrev pub invariant-loop-byte : goal.invariant-loop-byte
invariant-loop-byte l = l.text.items ≡ l.fn.text.items ++ flat_map shown_byte (take l.byte-index l.name)
