-- Names, one after the other, and what they stand for.
use Rattle.std.proofs.Common.{◌≡◌, ℕ, ◌+◌, ◌≤◌, Bool, true, false, List, ◌∷◌, ◌++◌, length, drop}
use Rattle.std.proofs.Common.{cond, eqb, ◌≢◌, sym, ap, subst, ◌∙◌, append_assoc, append-nil}
use Rattle.std.specs.Prelude.{find, Some, None, Err}
use Rattle.std.proofs.lemmas.List.{drop_all}
use Rattle.std.proofs.lemmas.Bool.{ne_eqb}
use Rattle.km_names.specs.AliasForm.{normal_or_itself}
use Rattle.km_course.specs.Follows.{Answers}
use Rattle.km_course.specs.declared.stop.Stop.{Stop}
use Rattle.km_course.specs.declared.stop.Stop.TheVariants.{Ended}
use Rattle.km_course.specs.Course.Outcome.{value, end}
use Rattle.km_course.specs.declared.end.End.TheVariants.{Refused}
use Rattle.km_course.specs.declared.refusal.Refusal.TheVariants.{NotFound}
use Rattle.name_lookup.specs.declared.found.Found.{Found}
use Rattle.stages_known.specs.declared.known.Known.{Known}
use Rattle.km_course.specs.Course.{value_unless}
use Rattle.stages_known.specs.Named.{found_in, is_unknown, found_names, names_outcome}

-- a name that stands for something
known-name : (known : Known) (everywhere : Bool) (name : List ℕ) (names : List (List ℕ))
    → is_unknown known everywhere name ≡ false
    → find (is_unknown known everywhere) (name ∷ names) ≡ find (is_unknown known everywhere) names
known-name known everywhere name names is =
    ap (λ b. cond b (Some name) (find (is_unknown known everywhere) names)) is

-- one that doesn't
unknown-name : (known : Known) (everywhere : Bool) (name : List ℕ) (names : List (List ℕ))
    → is_unknown known everywhere name ≡ true
    → find (is_unknown known everywhere) (name ∷ names) ≡ Some name
unknown-name known everywhere name names is =
    ap (λ b. cond b (Some name) (find (is_unknown known everywhere) names)) is

-- what a name that stands for nothing comes to
names-unknown : (known : Known) (everywhere : Bool) (names : List (List ℕ)) (name : List ℕ)
    → find (is_unknown known everywhere) names ≡ Some name
    → names_outcome known everywhere names ≡ end (Refused (NotFound (normal_or_itself name)))
unfolding names_outcome
names-unknown known everywhere names name is =
    ap (λ o. value_unless (λ name. NotFound (normal_or_itself name)) o
    (found_names known everywhere names)) is

-- what names that stand for something come to
names-known : (known : Known) (everywhere : Bool) (names all : List (List ℕ))
    → find (is_unknown known everywhere) names ≡ None → all ≡ found_names known everywhere names
    → names_outcome known everywhere names ≡ value all
unfolding names_outcome
names-known known everywhere names all is are =
    ap (λ o. value_unless (λ name. NotFound (normal_or_itself name)) o
    (found_names known everywhere names)) is ∙ ap value (sym are)

-- what was found for a name
pub found-some : (known : Known) (everywhere : Bool) (name : List ℕ) (f : Found)
    → f ≡ found_in known everywhere name → f.list ≢ 0 → is_unknown known everywhere name ≡ false
found-some known everywhere name f is some = ap (λ g. eqb g.list 0) (sym is) ∙ ne_eqb f.list 0 some

pub found-none : (known : Known) (everywhere : Bool) (name : List ℕ) (f : Found)
    → f ≡ found_in known everywhere name → f.list ≡ 0 → is_unknown known everywhere name ≡ true
found-none known everywhere name f is none =
    ap (λ g. eqb g.list 0) (sym is) ∙ ap (λ n. eqb n 0) none

-- one name more that stands for something
pub unknown-more : (known : Known) (everywhere : Bool) (names : List (List ℕ)) (i : ℕ)
    (name : List ℕ)
    → drop i names ≡ name ∷ drop (i + 1) names → is_unknown known everywhere name ≡ false
    → find (is_unknown known everywhere) (drop i names) ≡ find (is_unknown known everywhere) names
    → find (is_unknown known everywhere) (drop (i + 1) names)
    ≡ find (is_unknown known everywhere) names
unknown-more known everywhere names i name cut is before =
    sym (known-name known everywhere name (drop (i + 1) names) is)
    ∙ ap (find (is_unknown known everywhere)) (sym cut) ∙ before

pub names-on : (known : Known) (everywhere : Bool) (names : List (List ℕ)) (i : ℕ) (name : List ℕ)
    (all more : List (List ℕ)) (f : Found)
    → drop i names ≡ name ∷ drop (i + 1) names → f ≡ found_in known everywhere name
    → more ≡ all ++ f.names
    → all ++ found_names known everywhere (drop i names) ≡ found_names known everywhere names
    → more ++ found_names known everywhere (drop (i + 1) names) ≡ found_names known everywhere names
names-on known everywhere names i name all more f cut is added before =
    ap (λ ns. ns ++ found_names known everywhere (drop (i + 1) names))
    (added ∙ ap (λ (g : Found). all ++ g.names) is)
    ∙ append_assoc all (found_in known everywhere name).names
    (found_names known everywhere (drop (i + 1) names))
    ∙ ap (λ ns. all ++ found_names known everywhere ns) (sym cut)
    ∙ before

-- a name that stands for nothing stops
pub unknown-stops : (known : Known) (everywhere : Bool) (names : List (List ℕ)) (i : ℕ)
    (name : List ℕ) (stop : Stop)
    → drop i names ≡ name ∷ drop (i + 1) names → is_unknown known everywhere name ≡ true
    → find (is_unknown known everywhere) (drop i names) ≡ find (is_unknown known everywhere) names
    → stop ≡ Ended (Refused (NotFound (normal_or_itself name)))
    → Answers (λ (x : List (List ℕ)). x) (names_outcome known everywhere names) (Err stop)
unknown-stops known everywhere names i name stop cut is before ended =
    subst (λ s. Answers (λ (x : List (List ℕ)). x) (names_outcome known everywhere names) (Err s))
    (sym ended)
    (names-unknown known everywhere names name
    (sym before ∙ ap (find (is_unknown known everywhere)) cut
    ∙ unknown-name known everywhere name (drop (i + 1) names) is))

-- after the last name
pub all-known : (known : Known) (everywhere : Bool) (names : List (List ℕ)) (i : ℕ)
    (all : List (List ℕ))
    → length names ≤ i
    → find (is_unknown known everywhere) (drop i names) ≡ find (is_unknown known everywhere) names
    → all ++ found_names known everywhere (drop i names) ≡ found_names known everywhere names
    → names_outcome known everywhere names ≡ value all
all-known known everywhere names i all past unknown are =
    names-known known everywhere names all
    (sym unknown ∙ ap (find (is_unknown known everywhere)) (drop_all i names past))
    (sym (append-nil all)
    ∙ ap (λ ns. all ++ found_names known everywhere ns) (sym (drop_all i names past)) ∙ are)
