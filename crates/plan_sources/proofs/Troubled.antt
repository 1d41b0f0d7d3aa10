-- Paths of lines on needs, with one line more.
use Rattle.std.proofs.Common.{◌≡◌, ℕ, ◌+◌, ◌<◌, Bool, true, false, List, length, take, get_or, refl}
use Rattle.std.proofs.Common.{sym, ap, ◌∙◌}
use Rattle.std.specs.Prelude.{◌||◌}
use Rattle.std.proofs.lemmas.List.Folds.{list_any_more}
use Rattle.symbol_binding.specs.declared.unbound.Unbound.{Unbound}
use Rattle.symbol_binding.specs.Unmet.{belongs}
use Rattle.plan_sources.specs.Sources.{is_troubled}

pub or-false : (b : Bool) → (b || false) ≡ b
or-false true = refl
or-false false = refl

pub troubled-more : (unmet : List Unbound) (i : ℕ) (line : Unbound) (path : List ℕ)
    → i < length unmet → line ≡ get_or unmet i line
    → is_troubled (take (i + 1) unmet) path ≡ (is_troubled (take i unmet) path || belongs path line)
troubled-more unmet i line path l is =
    list_any_more (belongs path) unmet i line l
    ∙ ap (λ u. is_troubled (take i unmet) path || belongs path u) (sym is)
