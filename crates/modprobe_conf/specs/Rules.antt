-- The rules of modprobe.d(5): what each line of its files states.
use Rattle.std.specs.Prelude.{ℕ, List, [], ◌∷◌, ◌++◌, Bool, not, ◌||◌, if◌then◌else◌, codes, Option}
use Rattle.std.specs.Prelude.{Some, None, Result, map}
use Rattle.std.specs.Option.{option_map, option_and_then}
use Rattle.std.specs.List.{take_while}
use Rattle.std.specs.Str.{bytes_eq}
use Rattle.km_names.specs.Path.{underscored}
use Rattle.km_names.specs.AliasForm.{normal_alias}
use Rattle.km_names.specs.Space.{first_word, rest_after_word, words}
use Rattle.km_names.specs.Statements.{LinePlace, parsed}
use Rattle.km_names.specs.declared.conf.ConfFile.{ConfFile}
use Rattle.modprobe_conf.specs.declared.rule.Command.{Command}
use Rattle.modprobe_conf.specs.declared.rule.Command.TheVariants as commands
use Rattle.modprobe_conf.specs.declared.rule.Named.{Named}
use Rattle.modprobe_conf.specs.declared.rule.Rule.{Rule}
use Rattle.modprobe_conf.specs.declared.rule.Rule.TheVariants.{Alias, Blacklist, Options, Install}
use Rattle.modprobe_conf.specs.declared.rule.Rule.TheVariants.{Remove, Softdep}

-- A value, unless the text is empty.
abbrev pub unless_empty : {X : Type 0} → List ℕ → Option X → Option X
unless_empty [] x = None
unless_empty (b ∷ bs) x = x

-- `alias PATTERN NAME`, from what follows the command: two words, the first with a normal form.
unfoldable pub alias_rule : List ℕ → Option Rule
alias_rule rest =
    let name = first_word (rest_after_word rest) in
    unless_empty name
    (option_map (λ pattern. Alias pattern (underscored name)) (normal_alias (first_word rest)))

-- `blacklist NAME`: one word.
unfoldable pub blacklist_rule : List ℕ → Option Rule
blacklist_rule rest =
    unless_empty (first_word rest) (Some (Blacklist (underscored (first_word rest))))

-- A name, and a rest that isn't empty and is kept unchanged.
unfoldable pub name_with_rest : List ℕ → Option Named
name_with_rest rest =
    unless_empty (rest_after_word rest)
    (Some (record { name = underscored (first_word rest); text = rest_after_word rest }))

-- Whether a word in a line of soft dependencies is one of the markers `pre:` and `post:`.
abbrev pub is_marker : List ℕ → Bool
is_marker word = bytes_eq word (codes "pre:") || bytes_eq word (codes "post:")

-- The words after each such marker, up to the next marker of either kind.
abbrev pub words_after : List ℕ → List (List ℕ) → List (List ℕ)
words_after marker [] = []
words_after marker (word ∷ words) =
    if bytes_eq word marker
    then take_while (λ w. not (is_marker w)) words ++ words_after marker words
    else words_after marker words

-- `softdep NAME WORDS`: at least one word after the name. The names are those after `pre:` and
-- those after `post:`.
unfoldable pub softdep_rule : List ℕ → Option Rule
softdep_rule rest =
    let list = rest_after_word rest in
    let names : List ℕ → List (List ℕ)
    = λ marker. map underscored (words_after marker (words list)) in
    unless_empty list
    (Some (Softdep (underscored (first_word rest)) (names (codes "pre:"))
    (names (codes "post:"))))

-- The command of this name, if it is one.
unfoldable pub command_of : List ℕ → Option Command
command_of word =
    if bytes_eq word (codes "alias") then Some commands.Alias
    else (if bytes_eq word (codes "blacklist") then Some commands.Blacklist
    else (if bytes_eq word (codes "options") then Some commands.Options
    else (if bytes_eq word (codes "install") then Some commands.Install
    else (if bytes_eq word (codes "remove") then Some commands.Remove
    else (if bytes_eq word (codes "softdep") then Some commands.Softdep
    else None)))))

-- What a line of a command states, from what follows the command: `options NAME REST`,
-- `install NAME REST` and `remove NAME REST` are a name with a rest.
abbrev pub rule_of_command : Command → List ℕ → Option Rule
rule_of_command commands.Alias rest = alias_rule rest
rule_of_command commands.Blacklist rest = blacklist_rule rest
rule_of_command commands.Options rest =
    option_map (λ n. Options n.name n.text) (name_with_rest rest)
rule_of_command commands.Install rest =
    option_map (λ n. Install n.name n.text) (name_with_rest rest)
rule_of_command commands.Remove rest = option_map (λ n. Remove n.name n.text) (name_with_rest rest)
rule_of_command commands.Softdep rest = softdep_rule rest

-- What a line states, if it is understood: the rule of its command.
unfoldable pub rule_of : List ℕ → Option Rule
rule_of text =
    option_and_then (λ command. rule_of_command command (rest_after_word text))
    (command_of (first_word text))

-- The rules of the files, one for each line, in order, or the place of the first line that isn't
-- understood.
abbrev pub rules_of : List ConfFile → Result (List Rule) LinePlace
rules_of files = parsed rule_of files
