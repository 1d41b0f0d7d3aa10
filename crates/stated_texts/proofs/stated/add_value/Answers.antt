use Rattle.index_write.proofs.VisibleWords.{graphic-text}
use Rattle.stated_texts.proofs.stated.add_value.Goals as goal

pub add_owned-requires-clause-text : goal.add_owned-requires-clause-text
add_owned-requires-clause-text c = graphic-text c.args.name.now c.requires.name
