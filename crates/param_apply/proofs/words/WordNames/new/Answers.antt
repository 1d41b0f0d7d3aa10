use Rattle.std.proofs.Common.{◌≡◌, ◌+◌, ◌∙◌, ap, arith}
use Rattle.km_names.specs.Path.{underscored}
use Rattle.param_apply.specs.Words.{word_name}
use Rattle.param_apply.proofs.NameLemmas.{longest-more, table-more}
use Rattle.param_apply.proofs.words.WordNames.new.Goals as goal

pub loop-word-preserved : goal.loop-word-preserved
loop-word-preserved c =
    let words = c.args.words.now in
    let i = c.loop-word.word-index in
    let word = c.word-item.result in
    let name = c.split_at_byte.result.0.now in
    let here : name ≡ word_name word
    = c.split_at_byte.ensures.before ∙ ap word_name c.word.view_is in
    record {
      table =
          table-more c.push_name.new.names word_name words i word (underscored name)
          c.loop-word-test.true c.word-item.is (ap underscored here)
          (c.in_ok-push_name.ensures.table _ c.loop-word.invariant.table);
      count = c.in_ok-push_name.ensures.count ∙ ap (λ n. n + 1) c.loop-word.invariant.count;
      longest = λ j less.
          longest-more words i j c.loop-word.longest c.max-longest.result name word
          c.loop-word-test.true c.loop-word.invariant.longest
          (omega (arith, c.max-longest.ensures)) (omega (arith, c.max-longest.ensures)) here
          c.word-item.is less;
    }
