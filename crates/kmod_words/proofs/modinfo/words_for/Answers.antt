use Rattle.kmod_words.proofs.modinfo.words_for.Goals as goal

pub returns : goal.returns
returns c = λ i. record {
  field = c.in_ok-field.ensures i;
  zero = c.is_given.ensures i;
  version = c.in_ok-version.ensures i;
  basedir = c.in_ok-basedir.ensures i;
  words = c.in_ok-words.ensures i;
}
