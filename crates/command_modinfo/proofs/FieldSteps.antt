-- What is shown of the fields of one key.
use Rattle.std.proofs.Common.{◌≡◌, ℕ, Bool, true, false, List, refl, sym, ap, ◌∙◌}
use Rattle.std.specs.Prelude.{Option, Some, None, codes}
use Rattle.std.specs.Str.{bytes_eq}
use Rattle.modinfo_fields.specs.declared.piece.Field.{Field}
use Rattle.modinfo_fields.specs.Fields.{values_of_key}
use Rattle.modinfo_tool.specs.declared.text.ShowOptions.{ShowOptions}
use Rattle.modinfo_tool.specs.Show.{shown_text, values_under, lines_asked, ended, line_end}
use Rattle.command_modinfo.specs.PlainKeys.{stands_for_else, plain_key}

-- the values of a key that stands for nothing else
under-key : (path key : List ℕ) (fields : List Field) → stands_for_else key ≡ false
    → values_under key path fields ≡ values_of_key key fields
unfolding values_under stands_for_else
under-key path key fields is =
    by_tests (bytes_eq key (codes "filename")) (bytes_eq key (codes "parm")) refl refl
  where
    by_tests : (f p : Bool) → bytes_eq key (codes "filename") ≡ f → bytes_eq key (codes "parm") ≡ p
        → values_under key path fields ≡ values_of_key key fields
    by_tests true p e d = absurd (differ (rw e at is))
      where
        differ : true ≡ false → ⊥
        differ h = cc
    by_tests false true e d = absurd (differ (rw (e, d) at is))
      where
        differ : true ≡ false → ⊥
        differ h = cc
    by_tests false false e d = rw (e, d) refl

pub shown-by-key : (path : List ℕ) (options : ShowOptions) (key : List ℕ) (fields : List Field)
    → Some key ≡ plain_key options.field
    → ended (line_end options.zero) (values_of_key key fields) ≡ shown_text path fields options
unfolding shown_text
shown-by-key path options key fields is =
    ap (ended (line_end options.zero)) (by_field options.field is)
  where
    none : Some key ≡ None → ⊥
    none h = cc

    by_field : (field : Option (List ℕ)) → Some key ≡ plain_key field
        → values_of_key key fields ≡ lines_asked field path fields
    by_field None h = absurd (none h)
    by_field (Some k) h = by_test (stands_for_else k) refl
      where
        by_test : (t : Bool) → stands_for_else k ≡ t
            → values_of_key key fields ≡ values_under k path fields
        by_test true e = absurd (none (rw e at h))
        by_test false e = let f : Some key ≡ Some k = rw e at h in let g : key ≡ k = cc in
            ap (λ n. values_of_key n fields) g ∙ sym (under-key path k fields e)
