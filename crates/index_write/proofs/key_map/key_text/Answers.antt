use Rattle.index_write.proofs.KeyLemmas.{key-utf8}
use Rattle.index_write.proofs.key_map.key_text.Goals as goal

pub unwrap-requires : goal.unwrap-requires
unwrap-requires c = c.from_utf8.ensures.succeeds (key-utf8 c.args.key.items c.requires)
