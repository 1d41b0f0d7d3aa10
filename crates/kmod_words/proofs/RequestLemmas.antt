-- Requests, from what `clap` answers on.
use Rattle.std.proofs.Common.{◌≡◌, Bool, List, Option, Some, None, sym, ap, ◌∙◌, if◌then◌else◌}
use Rattle.std.proofs.Common.{codes}
use Rattle.std.specs.Prelude.{option_and_then}
use Rattle.clap.specs.Words.{App, Row, Text}
use Rattle.kmod_words.specs.Modprobe.{chosen, mode_asked}
use Rattle.kmod_words.specs.Numbers.{region_or_usual}
use Rattle.kmod_words.specs.Understood.{understood, value_of, is_version}
use Rattle.kmod_words.specs.declared.modprobe.Mode.{Mode}
use Rattle.module_region.specs.declared.region.Region.{Region}

module _ {W : Type 0} (asked : List Row → Option W) (app : App) (words given : List Text)
    (words_are : words ≡ given) where
  -- words that are understood ask for what their matches ask for
  pub asked-some : (matches : Option (List Row)) (rows : List Row) → matches ≡ understood app words
      → matches ≡ Some rows → asked rows ≡ option_and_then asked (understood app given)
  asked-some matches rows is some
      = ap (option_and_then asked) (sym some ∙ is ∙ ap (understood app) words_are)

  -- words that aren't ask for nothing
  pub asked-none : (matches : Option (List Row)) → matches ≡ understood app words → matches ≡ None
      → None ≡ option_and_then asked (understood app given)
  asked-none matches is none
      = ap (option_and_then asked) (sym none ∙ is ∙ ap (understood app) words_are)

-- what the matches choose, where they have a mode, a version and a region
pub chosen-among : (rows : List Row) (mode : Mode) (version : Text) (region : Region) (b : Bool)
    → Some mode ≡ mode_asked rows → Some version ≡ value_of (codes "set-version") rows
    → Some region ≡ region_or_usual (value_of (codes "region") rows) → is_version version ≡ b
    → (if b then Some (mode, version, region) else None) ≡ chosen rows
unfolding chosen
chosen-among rows mode version region b by_mode by_version by_region tested =
    ap (λ t. if t then Some (mode, version, region) else None) (sym tested)
    ∙ ap (option_and_then
    (λ region. if is_version version then Some (mode, version, region) else None)) by_region
    ∙ ap (option_and_then (λ version. option_and_then
    (λ region. if is_version version then Some (mode, version, region) else None)
    (region_or_usual (value_of (codes "region") rows)))) by_version
    ∙ ap (option_and_then (λ mode. option_and_then (λ version. option_and_then
    (λ region. if is_version version then Some (mode, version, region) else None)
    (region_or_usual (value_of (codes "region") rows))) (value_of (codes "set-version") rows)))
    by_mode
