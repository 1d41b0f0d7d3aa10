-- The requests of `static-nodes` and `builtin-alias`, from what the matches have.
use Rattle.std.proofs.Common.{◌≡◌, Bool, true, ◌&&◌, List, Some, None, ap, ◌∙◌, if◌then◌else◌}
use Rattle.std.proofs.Common.{codes}
use Rattle.std.specs.Prelude.{option_and_then, unwrap_or}
use Rattle.std.specs.Str.{bytes_eq}
use Rattle.clap.specs.Words.{Row, Text}
use Rattle.kmod_words.specs.Understood.{value_of, is_version}
use Rattle.kmod_words.specs.StaticNodes.{static_nodes_asked}
use Rattle.kmod_words.specs.BuiltinAlias.{builtin_alias_asked}
use Rattle.kmod_words.specs.declared.static_nodes.StaticNodesWords.{StaticNodesWords}
use Rattle.kmod_words.specs.declared.builtin_alias.BuiltinAliasWords.{BuiltinAliasWords}

-- the root that matches have
abbrev root : List Row → Text
root rows = unwrap_or (value_of (codes "dirname") rows) (codes "/")

abbrev alias_words : List Row → Text → Text → BuiltinAliasWords
alias_words rows version name = record { dirname = root rows; version = version; name = name }

pub alias-asked : (rows : List Row) (dirname version name : Text)
    → Some version ≡ value_of (codes "set-version") rows → Some name ≡ value_of (codes "name") rows
    → true ≡ is_version version → dirname ≡ root rows
    → Some (record { dirname = dirname; version = version; name = name })
    ≡ builtin_alias_asked rows
unfolding builtin_alias_asked
alias-asked rows dirname version name by_version by_name tested place =
    ap (λ (d : Text). Some (record { dirname = d; version = version; name = name })) place
    ∙ ap (λ (t : Bool). if t then Some (alias_words rows version name) else None) tested
    ∙ ap (option_and_then
    (λ (n : Text). if is_version version then Some (alias_words rows version n) else None))
    by_name
    ∙ ap (option_and_then
    (λ (v : Text). option_and_then
    (λ (n : Text). if is_version v then Some (alias_words rows v n) else None)
    (value_of (codes "name") rows))) by_version

abbrev node_words : List Row → Text → StaticNodesWords
node_words rows version = record { dirname = root rows; version = version }

pub nodes-asked : (rows : List Row) (dirname version format : Text)
    → Some version ≡ value_of (codes "set-version") rows
    → Some format ≡ value_of (codes "format") rows
    → true ≡ is_version version && bytes_eq format (codes "devname") → dirname ≡ root rows
    → Some (record { dirname = dirname; version = version }) ≡ static_nodes_asked rows
unfolding static_nodes_asked
nodes-asked rows dirname version format by_version by_format tested place =
    ap (λ (d : Text). Some (record { dirname = d; version = version })) place
    ∙ ap (λ (t : Bool). if t then Some (node_words rows version) else None) tested
    ∙ ap (option_and_then
    (λ (f : Text). if is_version version && bytes_eq f (codes "devname")
    then Some (node_words rows version)
    else None)) by_format
    ∙ ap (option_and_then
    (λ (v : Text). option_and_then
    (λ (f : Text). if is_version v && bytes_eq f (codes "devname")
    then Some (node_words rows v)
    else None) (value_of (codes "format") rows))) by_version

-- two tests that passed
pub both-passed : (a b : Bool) → true ≡ a → true ≡ b → true ≡ a && b
both-passed a b one other = other ∙ ap (λ x. x && b) one
