use Rattle.std.proofs.Common.{◌≡◌, ℕ, List, Bor, true, map, ap, ◌∙◌, inl, inr}
use Rattle.std.proofs.lemmas.Bool.{and_parts}
use Rattle.clap.specs.Words.{App, Text, app_of, found_of, is_simple, is_simple_and_free, kind_of}
use Rattle.clap.specs.Words.{rows_of}
use Rattle.clap.specs.Faults.{is_free_app}
use Rattle.clap.specs.Simple.{built}
use Rattle.kmod_words.specs.Understood.{understood}
use Rattle.kmod_words.proofs.MatchLemmas.{with_fault, without_fault}
use Rattle.kmod_words.proofs.matches.understood.Goals as goal

pub returns-in-Ok : goal.returns-in-Ok
returns-in-Ok c =
    let app : App = app_of c.in_ok-command.command in
    let words : List Text = map (λ (w : Bor (List ℕ)). w.now) c.args.words.now in
    let free : is_simple_and_free app ≡ true
    = ap is_simple_and_free c.in_ok-command.ensures ∙ c.requires in
    let simple : is_simple app ≡ true
    = (and_parts (is_simple app) (is_free_app (built app)) free).0 in
    without_fault app words (rows_of (found_of c.in-Ok.matches)) (c.in-Ok.ensures.kinds free)
    (c.in-Ok.ensures.matches simple).0
    ∙ ap (λ a. understood a words) c.in_ok-command.ensures

pub returns : goal.returns
returns c =
    let app : App = app_of c.in_ok-command.command in
    let words : List Text = map (λ (w : Bor (List ℕ)). w.now) c.args.words.now in
    let free : is_simple_and_free app ≡ true
    = ap is_simple_and_free c.in_ok-command.ensures ∙ c.requires in
    elim (c.in-Err.ensures.kinds free) [
      | inl is ↦ absurd (c.in_default.not-OutOfMemory (c.kind.ensures ∙ is))
      | inr among ↦ with_fault app words (kind_of c.in-Err.error) among
          ∙ ap (λ a. understood a words) c.in_ok-command.ensures
    ]
