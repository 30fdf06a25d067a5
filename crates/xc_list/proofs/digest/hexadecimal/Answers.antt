use Rattle.std.proofs.Common.{◌∙◌, ap}
use Rattle.hex.specs.Hex.{encode_lower}
use Rattle.xc_list.proofs.digest.hexadecimal.Goals as goal

pub returns : goal.returns
returns c = rw c.unwrap.ensures at c.encode_to_slice.ensures.written ∙ ap encode_lower c.to_be_bytes.ensures
