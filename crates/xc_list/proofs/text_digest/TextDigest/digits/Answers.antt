use Rattle.std.proofs.Common.{◌∙◌, ap}
use Rattle.std.specs.Int.{w64, to_be_bytes}
use Rattle.hex.specs.Hex.{encode_lower}
use Rattle.xc_text.specs.Hashing.{taken}
use Rattle.xc_list.specs.Digests.{digits_of}
use Rattle.xc_list.specs.inner.Writing.{digest_multiplier}
use Rattle.xc_list.proofs.text_digest.TextDigest.digits.Goals as goal

pub returns : goal.returns
unfolding digits_of
returns c =
    c.hexadecimal.ensures ∙ ap (λ n. encode_lower (to_be_bytes w64 n)) (c.taken-2.ensures
    ∙ ap (λ s. taken digest_multiplier s c.args.self.now.held) c.taken.ensures)
