use Rattle.std.proofs.Common.{◌≡◌, ◌++◌, ◌∷◌, [], ℕ, Bool, List, Vec, None, refl, sym, ap, ◌∙◌}
use Rattle.std.proofs.Common.{is_some, subst}
use Rattle.std.specs.Prelude.{IsSome}
use Rattle.std.specs.Map.{lookup}
use Rattle.std.specs.Str.{bytes_eq}
use Rattle.std.specs.declared.alloc.Global.{Global}
use Rattle.indexmap.specs.IndexMap.{IndexMap, get, insert_entry}
use Rattle.indexmap.proofs.CallerLemmas.{insert_entry-new}
use Rattle.name_table.specs.declared.key.NameKey.{NameKey}
use Rattle.plan_sources.specs.Sources.{Sources}
use Rattle.plan_sources.specs.Planner.{sources_of}
use Rattle.plan_sources.specs.Softdeps.{PlaceLists, IsSoftTable, loadable_places}
use Rattle.plan_sources.proofs.SoftSteps.{table-again, table-more}
use Rattle.plan_sources.proofs.softdeps.add_name.Goals as goal

abbrev same : NameKey → NameKey → Bool
same x y = bytes_eq x.bytes.now y.bytes.now

module _ {S : Type 0} (s : Sources) (names : List (List ℕ)) (m : IndexMap NameKey (Vec ℕ Global) S)
    (is : IsSoftTable s names m.entries) (name : List ℕ) (key : NameKey)
    (own : key.bytes.now ≡ name) (new : PlaceLists) where
  here : lookup (λ (k : NameKey). bytes_eq name k.bytes.now) m.entries ≡ get same m key
  here = ap (λ b. lookup (λ (k : NameKey). bytes_eq b k.bytes.now) m.entries) (sym own)

  -- the lists, if the name has one
  again : IsSome (get same m key) → new ≡ m.entries → IsSoftTable s (names ++ name ∷ []) new
  again some kept =
      subst (IsSoftTable s (names ++ name ∷ [])) (sym kept)
      (table-again s names m.entries is name (get same m key) here some)

  -- the lists with one more
  entered : (places : Vec ℕ Global) → places.items ≡ loadable_places s name
      → get same m key ≡ None → new ≡ insert_entry same m.entries key places
      → IsSoftTable s (names ++ name ∷ []) new
  entered places made none put =
      subst (IsSoftTable s (names ++ name ∷ []))
      (sym (put ∙ insert_entry-new same m key places none))
      (table-more s names m.entries is name key places own made (here ∙ none))

pub returns-in-Some-clause-lists : goal.returns-in-Some-clause-lists
returns-in-Some-clause-lists c = λ names is.
    again (sources_of c.args.planner.now) names c.args.lists.now is c.args.name.now
    c.new-key.result (c.new-key.ensures ∙ c.as_bytes.ensures) c.args.lists.now.entries
    (ap is_some (sym c.in-Some.ensures.value)) refl

pub returns-in_ok-insert-in-None-clause-lists : goal.returns-in_ok-insert-in-None-clause-lists
returns-in_ok-insert-in-None-clause-lists c = λ names is.
    entered (sources_of c.args.planner.now) names c.args.lists.now is c.args.name.now
    c.new-key.result (c.new-key.ensures ∙ c.as_bytes.ensures) _ c.in_ok-places-in-None.places
    c.in_ok-places-in-None.ensures.places (sym c.in-None.ensures.value)
    c.in_ok-insert-in-None.ensures.entries
