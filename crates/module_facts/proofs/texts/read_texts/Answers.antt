use Rattle.std.proofs.Common.{◌≡◌, ℕ, List, [], ◌++◌, ◌∙◌, ap, codes, length, refl, sym, append-nil}
use Rattle.std.proofs.lemmas.Bool.{eqb-true}
use Rattle.std.proofs.lemmas.List.{nil_from_length}
use Rattle.modinfo_fields.specs.Fields.{fields_of, values_of_key}
use Rattle.modinfo_fields.proofs.Pieces.{values-nil, values_later}
use Rattle.module_facts.specs.Texts.{values_in}
use Rattle.module_facts.proofs.texts.read_texts.Goals as goal

pub loop-rest-preserved : goal.loop-rest-preserved
loop-rest-preserved c =
    let bytes = c.args.bytes.now in
    let rest = c.loop-rest.rest.now in
    let piece = c.split_at_byte.result.0.now in
    let after = c.split_at_byte.result.1.now in
    let before = c.split_at_byte.ensures.before in
    let then = c.split_at_byte.ensures.after in
    record {
      licenses =
          ap (λ l. l ++ values_of_key (codes "license") (fields_of after))
          c.in_ok-push.ensures.licenses
          ∙ values_later (codes "license") bytes rest piece after c.loop-rest.texts.licenses
          (values_in (codes "license") piece) c.loop-rest.invariant.licenses before then refl;
      aliases =
          ap (λ l. l ++ values_of_key (codes "alias") (fields_of after))
          c.in_ok-push.ensures.aliases
          ∙ values_later (codes "alias") bytes rest piece after c.loop-rest.texts.aliases
          (values_in (codes "alias") piece) c.loop-rest.invariant.aliases before then refl;
      softdeps =
          ap (λ l. l ++ values_of_key (codes "softdep") (fields_of after))
          c.in_ok-push.ensures.softdeps
          ∙ values_later (codes "softdep") bytes rest piece after c.loop-rest.texts.softdeps
          (values_in (codes "softdep") piece) c.loop-rest.invariant.softdeps before then refl;
      imports =
          ap (λ l. l ++ values_of_key (codes "import_ns") (fields_of after))
          c.in_ok-push.ensures.imports
          ∙ values_later (codes "import_ns") bytes rest piece after c.loop-rest.texts.imports
          (values_in (codes "import_ns") piece) c.loop-rest.invariant.imports before then refl;
    }

-- what is read of all bytes
all_read : (key bytes rest : List ℕ) (values : List (List ℕ)) → rest ≡ []
    → values ++ values_of_key key (fields_of rest) ≡ values_of_key key (fields_of bytes)
    → values ≡ values_of_key key (fields_of bytes)
all_read key bytes rest values none read =
    sym (append-nil values)
    ∙ ap (λ l. values ++ l)
    (sym (ap (λ r. values_of_key key (fields_of r)) none ∙ values-nil key))
    ∙ read

pub returns : goal.returns
returns c =
    let bytes = c.args.bytes.now in
    let rest = c.loop-rest.rest.now in
    let none
    = nil_from_length rest (eqb-true (length rest) 0 (sym c.loop-rest-test.ensures)) in
    record {
      licenses =
          all_read (codes "license") bytes rest c.loop-rest.texts.licenses none
          c.loop-rest.invariant.licenses;
      aliases =
          all_read (codes "alias") bytes rest c.loop-rest.texts.aliases none
          c.loop-rest.invariant.aliases;
      softdeps =
          all_read (codes "softdep") bytes rest c.loop-rest.texts.softdeps none
          c.loop-rest.invariant.softdeps;
      imports =
          all_read (codes "import_ns") bytes rest c.loop-rest.texts.imports none
          c.loop-rest.invariant.imports;
    }
