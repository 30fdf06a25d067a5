use Rattle.std.proofs.Common.{arith}
use Rattle.std.specs.Str.{IsUtf8}
use Rattle.xc_streams.proofs.StreamLemmas.{no_word, one_word_more, passed_test, all_more}
use Rattle.xc_streams.proofs.arguments.read_words.Goals as goal

pub loop-place-init : goal.loop-place-init
loop-place-init g c = grind (arith, no_word)

pub loop-place-preserved : goal.loop-place-preserved
loop-place-preserved g c = record {
  all = one_word_more _ _ _ _ _ _ c.loop-place.auto.place c.in_ok-push.ensures.items c.loop-place.invariant.all
      (rw c.in-Some.is at c.in_ok-word.ensures);
  utf8 =
      let text = passed_test _ _ c.from_utf8.result c.from_utf8.ensures.cases (grind arith) in
      all_more (λ w. IsUtf8 w.items) _ _ _ c.in_ok-push.ensures.items c.loop-place.invariant.utf8
      (rw c.deref.ensures.value at text);
}
