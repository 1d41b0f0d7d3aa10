use Rattle.std.proofs.Common.{◌≡◌, ◌++◌, codes, length}
use Rattle.modinfo_fields.specs.Fields.{fields_of, values_of_key}
use Rattle.module_facts.proofs.texts.read_texts.Given as goal

abbrev pub invariant-loop-rest : goal.invariant-loop-rest
invariant-loop-rest l = record {
  licenses :
      l.texts.licenses ++ values_of_key (codes "license") (fields_of l.rest)
      ≡ values_of_key (codes "license") (fields_of l.bytes);
  aliases :
      l.texts.aliases ++ values_of_key (codes "alias") (fields_of l.rest)
      ≡ values_of_key (codes "alias") (fields_of l.bytes);
  softdeps :
      l.texts.softdeps ++ values_of_key (codes "softdep") (fields_of l.rest)
      ≡ values_of_key (codes "softdep") (fields_of l.bytes);
  imports :
      l.texts.imports ++ values_of_key (codes "import_ns") (fields_of l.rest)
      ≡ values_of_key (codes "import_ns") (fields_of l.bytes);
}

abbrev pub decreases-loop-rest : goal.decreases-loop-rest
decreases-loop-rest l = length l.rest
