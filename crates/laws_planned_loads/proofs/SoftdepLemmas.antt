-- The lines of modules.softdep are understood.
use Rattle.std.proofs.Common.{◌≡◌, ◌∙◌, ◌+◌, ◌-◌, ◌<◌, ℕ, Bool, true, false, cond, List, [], ◌∷◌}
use Rattle.std.proofs.Common.{◌++◌, length, map, filter, take, flat_map, codes, Option, Some, None}
use Rattle.std.proofs.Common.{Ok, refl, sym, ap, subst, inl, inr, arith, append_assoc}
use Rattle.std.proofs.Common.{length-append}
use Rattle.std.specs.Prelude.{◌&&◌, ◌||◌, ◌==◌, not, nat_eq, All}
use Rattle.std.specs.Option.{option_and_then}
use Rattle.std.specs.Char.{is_ascii_graphic}
use Rattle.std.specs.List.{cons_option, ends_with, filter_map, list_all, onto_first, slice_split}
use Rattle.std.proofs.lemmas.Bool.{and_from, and_parts, cases_Bool, true≢false}
use Rattle.std.proofs.lemmas.List.{append-nil}
use Rattle.std.proofs.lemmas.List.Elements.{All-weaker}
use Rattle.std.proofs.lemmas.List.Folds.{list_all-append}
use Rattle.std.proofs.lemmas.List.Splits.{slice_split_at}
use Rattle.std.proofs.lemmas.List.Sums.{AllPass-from_list_all}
use Rattle.km_names.specs.Ascii.{is_graphic}
use Rattle.km_names.specs.First.{first}
use Rattle.km_names.specs.Lines.{conf_lines, goes_on, is_statement, joined_lines, lines_of}
use Rattle.km_names.specs.Lines.{onto_line, statements, without_empty_last}
use Rattle.km_names.specs.Path.{underscored}
use Rattle.km_names.specs.Space.{first_word, is_space, rest_after_word, trimmed, trimmed_end}
use Rattle.km_names.specs.Space.{trimmed_start, words}
use Rattle.km_names.specs.Statements.{bad_line, bad_place, bad_places, file_statements, parsed}
use Rattle.km_names.specs.Statements.{stated, unless_fault}
use Rattle.km_names.specs.declared.conf.ConfFile.{ConfFile}
use Rattle.km_names.specs.declared.conf.Line.{Line}
use Rattle.km_names.proofs.LineSteps.{lines-nil, states-nothing, states-something, statements-cons}
use Rattle.km_names.proofs.LineSteps.{statements-nil}
use Rattle.modprobe_conf.specs.declared.rule.Rule.{Rule}
use Rattle.modprobe_conf.specs.declared.rule.Rule.TheVariants as rules
use Rattle.modprobe_conf.specs.Rules.{command_of, rule_of, rule_of_command, rules_of, softdep_rule}
use Rattle.modprobe_conf.specs.Rules.{unless_empty, words_after}
use Rattle.module_facts.specs.declared.facts.Facts.{Facts}
use Rattle.provider_rel.specs.Tree.{IsTree, IsTreeModule}
use Rattle.stated_texts.specs.Lines.{lines_text}
use Rattle.stated_texts.specs.Stated.{is_printable, is_usable_softdep, softdep_lines, softdep_text}
use Rattle.stated_texts.specs.Stated.{softdeps_of}
use Rattle.laws_closed_plans.specs.Members.{Member}
use Rattle.laws_closed_plans.proofs.UnmetLemmas.{all-member}
use Rattle.laws_planned_loads.specs.Reading.{softdep_of, softdep_rules}
use Rattle.laws_planned_loads.proofs.SpaceLemmas.{ends-last, first-word, is_solid, rest-after}
use Rattle.laws_planned_loads.proofs.SpaceLemmas.{trim-end, trim-none, trim-other, trim-to-end}
use Rattle.laws_planned_loads.proofs.SpaceLemmas.{words-end, words-start}

not-true : (v : Bool) → not v ≡ true → v ≡ false
not-true true h = absurd (true≢false (sym h))
not-true false h = refl

-- ---- a line that is understood

-- a line stands by itself, and states this
pub record States (line : List ℕ) (rule : Rule) : Type 0 where
  pub one : list_all (λ b. not (b == 10)) line ≡ true
  pub alone : goes_on line ≡ false
  pub some : is_statement (trimmed line) ≡ true
  pub read : rule_of (trimmed line) ≡ Some rule

abbrev pub AllState : List (List ℕ) → List Rule → Type 0
AllState [] [] = Unit {0}
AllState [] (rule ∷ rs) = ⊥
AllState (line ∷ lines) [] = ⊥
AllState (line ∷ lines) (rule ∷ rs) = States line rule × AllState lines rs

-- ---- the lines of a text

fails-of : (line : List ℕ) → list_all (λ b. not (b == 10)) line ≡ true
    → All (λ b. (b == 10) ≡ false) line
fails-of line all =
    All-weaker (λ (b : ℕ). not (b == 10) ≡ true) (λ (b : ℕ). (b == 10) ≡ false)
    (λ b h. not-true (b == 10) h) line
    (AllPass-from_list_all (λ (b : ℕ). not (b == 10)) line all)

line-first : (line others : List ℕ) → list_all (λ b. not (b == 10)) line ≡ true
    → lines_of (line ++ 10 ∷ others) ≡ line ∷ lines_of others
unfolding lines_of
line-first line others all =
    ap without_empty_last
    (slice_split_at (λ (b : ℕ). b == 10) line 10 others (fails-of line all) refl)
    ∙ kept line others (some others)
  where
    some : (text : List ℕ)
        → (p : List ℕ) × (ps : List (List ℕ)) × (slice_split (λ b. b == 10) text ≡ p ∷ ps)
    some [] = ([], [], refl)
    some (b ∷ text) = go (b == 10) (some text)
      where
        go : (v : Bool)
            → (p : List ℕ) × (ps : List (List ℕ)) × (slice_split (λ b. b == 10) text ≡ p ∷ ps)
            → (p : List ℕ) × (ps : List (List ℕ))
            × (cond v ([] ∷ slice_split (λ b. b == 10) text)
            (onto_first b (slice_split (λ b. b == 10) text))
            ≡ p ∷ ps)
        go true ih = ([], slice_split (λ c. c == 10) text, refl)
        go false ih = (b ∷ ih.0, ih.1, ap (onto_first b) ih.2)

    before : (p q : List ℕ) (qs : List (List ℕ))
        → without_empty_last (p ∷ q ∷ qs) ≡ p ∷ without_empty_last (q ∷ qs)
    before [] q qs = refl
    before (b ∷ bs) q qs = refl

    kept : (piece text : List ℕ)
        → ((p : List ℕ) × (ps : List (List ℕ)) × (slice_split (λ b. b == 10) text ≡ p ∷ ps))
        → without_empty_last (piece ∷ slice_split (λ b. b == 10) text)
        ≡ piece ∷ without_empty_last (slice_split (λ b. b == 10) text)
    kept piece text more =
        ap (λ ps. without_empty_last (piece ∷ ps)) more.2 ∙ before piece more.0 more.1
        ∙ ap (λ ps. piece ∷ without_empty_last ps) (sym more.2)

lines-next : (line : List ℕ) (lines : List (List ℕ)) → list_all (λ b. not (b == 10)) line ≡ true
    → lines_of (lines_text (line ∷ lines)) ≡ line ∷ lines_of (lines_text lines)
lines-next line lines all =
    ap lines_of (append_assoc line (10 ∷ []) (lines_text lines))
    ∙ line-first line (lines_text lines) all

lines-back : (lines : List (List ℕ)) (rs : List Rule) → AllState lines rs
    → lines_of (lines_text lines) ≡ lines
lines-back [] [] all = lines-nil
lines-back [] (rule ∷ rs) all = absurd all
lines-back (line ∷ lines) [] all = absurd all
lines-back (line ∷ lines) (rule ∷ rs) all =
    lines-next line lines all.0.one ∙ ap (λ ls. line ∷ ls) (lines-back lines rs all.1)

-- ---- what they state

abbrev AreRead : List Line → List Rule → Type 0
AreRead [] [] = Unit {0}
AreRead [] (rule ∷ rs) = ⊥
AreRead (line ∷ lines) [] = ⊥
AreRead (line ∷ lines) (rule ∷ rs) = (rule_of line.text ≡ Some rule) × AreRead lines rs

abbrev numbered : ℕ → List ℕ → Line
numbered number text = record { number = number; text = text }

joined-next : (number : ℕ) (line : List ℕ) (lines : List (List ℕ)) → goes_on line ≡ false
    → joined_lines number (line ∷ lines) ≡ numbered number line ∷ joined_lines (number + 1) lines
joined-next number line lines alone =
    ap (λ v. cond v
    (onto_line number (take (length line - 1) line) (joined_lines (number + 1) lines))
    (numbered number line ∷ joined_lines (number + 1) lines)) alone

all-read : (number : ℕ) (lines : List (List ℕ)) (rs : List Rule) → AllState lines rs
    → AreRead (statements (joined_lines number lines)) rs
all-read number [] [] all = subst (λ ls. AreRead ls []) (sym statements-nil) tt
all-read number [] (rule ∷ rs) all = absurd all
all-read number (line ∷ lines) [] all = absurd all
all-read number (line ∷ lines) (rule ∷ rs) all =
    let more : statements (joined_lines number (line ∷ lines))
    ≡ numbered number (trimmed line) ∷ statements (joined_lines (number + 1) lines)
    =
    ap statements (joined-next number line lines all.0.alone)
    ∙ statements-cons (numbered number line) (joined_lines (number + 1) lines)
    ∙ ap (λ ls. ls ++ statements (joined_lines (number + 1) lines))
    (states-something number line all.0.some) in
    subst (λ ls. AreRead ls (rule ∷ rs)) (sym more)
    (all.0.read, all-read (number + 1) lines rs all.1)

-- a heading that states nothing
pub record IsHeading (line : List ℕ) : Type 0 where
  pub one : list_all (λ b. not (b == 10)) line ≡ true
  pub alone : goes_on line ≡ false
  pub nothing : is_statement (trimmed line) ≡ false

file-read : (heading : List ℕ) (lines : List (List ℕ)) (rs : List Rule) → IsHeading heading
    → AllState lines rs → AreRead (conf_lines (lines_text (heading ∷ lines))) rs
unfolding conf_lines
file-read heading lines rs head all =
    let is : lines_of (lines_text (heading ∷ lines)) ≡ heading ∷ lines =
    lines-next heading lines head.one ∙ ap (λ ls. heading ∷ ls) (lines-back lines rs all) in
    let more : statements (joined_lines 1 (lines_of (lines_text (heading ∷ lines))))
    ≡ statements (joined_lines (1 + 1) lines)
    =
    ap (λ ls. statements (joined_lines 1 ls)) is
    ∙ ap statements (joined-next 1 heading lines head.alone)
    ∙ statements-cons (numbered 1 heading) (joined_lines (1 + 1) lines)
    ∙ ap (λ ls. ls ++ statements (joined_lines (1 + 1) lines))
    (states-nothing 1 heading head.nothing) in
    subst (λ ls. AreRead ls rs) (sym more) (all-read (1 + 1) lines rs all)

places-none : (path : List ℕ) (lines : List Line) (rs : List Rule) → AreRead lines rs
    → first (map (λ (line : Line). bad_place path line.number (rule_of line.text)) lines) ≡ None
places-none path [] [] all = refl
places-none path [] (rule ∷ rs) all = absurd all
places-none path (line ∷ lines) [] all = absurd all
places-none path (line ∷ lines) (rule ∷ rs) all =
    ap (λ o. first (bad_place path line.number o
    ∷ map (λ (l : Line). bad_place path l.number (rule_of l.text)) lines)) all.0
    ∙ places-none path lines rs all.1

read-all : (lines : List Line) (rs : List Rule) → AreRead lines rs
    → filter_map (λ (line : Line). rule_of line.text) lines ≡ rs
read-all [] [] all = refl
read-all [] (rule ∷ rs) all = absurd all
read-all (line ∷ lines) [] all = absurd all
read-all (line ∷ lines) (rule ∷ rs) all =
    ap (λ o. cons_option o (filter_map (λ (l : Line). rule_of l.text) lines)) all.0
    ∙ ap (λ more. rule ∷ more) (read-all lines rs all.1)

-- ---- a file

pub file-states : (path heading : List ℕ) (lines : List (List ℕ)) (rs : List Rule)
    → IsHeading heading → AllState lines rs
    → rules_of (record { path = path; bytes = lines_text (heading ∷ lines) } ∷ []) ≡ Ok rs
unfolding parsed bad_line stated
file-states path heading lines rs head all =
    let file : ConfFile = record { path = path; bytes = lines_text (heading ∷ lines) } in
    let read = file-read heading lines rs head all in
    let none : first (flat_map (bad_places rule_of) (file ∷ [])) ≡ None =
    ap first (append-nil (bad_places rule_of file))
    ∙ places-none path (conf_lines file.bytes) rs read in
    let all_stated : flat_map (file_statements rule_of) (file ∷ []) ≡ rs =
    append-nil (file_statements rule_of file) ∙ read-all (conf_lines file.bytes) rs read in
    ap (λ place. unless_fault place (flat_map (file_statements rule_of) (file ∷ []))) none
    ∙ ap Ok all_stated

-- ---- a line of a soft dependency

graphic-solid : (b : ℕ) → is_ascii_graphic b ≡ true → is_solid b ≡ true
graphic-solid b graphic = go (is_space b) refl
  where
    apart : is_space b ≡ true → ⊥
    apart is = grind arith

    go : (v : Bool) → is_space b ≡ v → is_solid b ≡ true
    go true is = absurd (apart is)
    go false is = ap not is

graphic-one : (b : ℕ) → is_ascii_graphic b ≡ true → not (b == 10) ≡ true
graphic-one b graphic =
    elim (cases_Bool (b == 10)) [ inl is ↦ absurd (apart is) | inr other ↦ ap not other ]
  where
    apart : (b == 10) ≡ true → ⊥
    apart is = grind arith

printable-one : (b : ℕ) → is_printable b ≡ true → not (b == 10) ≡ true
printable-one b printable =
    elim (cases_Bool (b == 10)) [ inl is ↦ absurd (apart is) | inr other ↦ ap not other ]
  where
    apart : (b == 10) ≡ true → ⊥
    apart is = grind arith

weaker : (p q : ℕ → Bool) → ((b : ℕ) → p b ≡ true → q b ≡ true) → (text : List ℕ)
    → list_all p text ≡ true → list_all q text ≡ true
weaker p q each [] all = refl
weaker p q each (b ∷ text) all =
    let h = and_parts (p b) (list_all p text) all in
    and_from (q b) (list_all q text) (each b h.0) (weaker p q each text h.1)

-- a text up to its last byte that isn't a space
record Parts (text : List ℕ) : Type 0 where
  pub front : List ℕ
  pub last : ℕ
  pub space : List ℕ
  pub whole : text ≡ (front ++ last ∷ []) ++ space
  pub other : is_space last ≡ false
  pub spaces : list_all is_space space ≡ true

solid-other : (b : ℕ) → is_printable b ≡ true → (b == 32) ≡ false → is_space b ≡ false
solid-other b printable other = go (is_space b) refl
  where
    apart : is_space b ≡ true → ⊥
    apart is = grind arith

    go : (v : Bool) → is_space b ≡ v → is_space b ≡ false
    go true is = absurd (apart is)
    go false is = is

space-is : (b : ℕ) → (b == 32) ≡ true → is_space b ≡ true
space-is b is = ap (λ v. v || b == 9 || b == 13) is

parts : (text : List ℕ) → list_all is_printable text ≡ true → list_all (λ b. b == 32) text ≡ false
    → Parts text
parts [] printable some = absurd (true≢false some)
parts (b ∷ text) printable some =
    let h = and_parts (is_printable b) (list_all is_printable text) printable in
    go (list_all (λ c. c == 32) text) refl some h.0 (parts text h.1)
  where
    go : (v : Bool) → list_all (λ c. c == 32) text ≡ v
        → ((b == 32) && list_all (λ c. c == 32) text) ≡ false → is_printable b ≡ true
        → (list_all (λ c. c == 32) text ≡ false → Parts text) → Parts (b ∷ text)
    go true is some printable more = record {
      front = [];
      last = b;
      space = text;
      whole = refl;
      other = solid-other b printable (last-other (b == 32) (list_all (λ c. c == 32) text) is some);
      spaces = weaker (λ c. c == 32) is_space space-is text is;
    }
      where
        last-other : (v w : Bool) → w ≡ true → (v && w) ≡ false → v ≡ false
        last-other true w is some = absurd (true≢false (sym is ∙ some))
        last-other false w is some = refl
    go false is some printable more =
        let p = more is in
        record {
          front = b ∷ p.front;
          last = p.last;
          space = p.space;
          whole = ap (λ t. b ∷ t) p.whole;
          other = p.other;
          spaces = p.spaces;
        }

unless-end : {X : Type 0} (front : List ℕ) (last : ℕ) (x : Option X)
    → unless_empty (front ++ last ∷ []) x ≡ x
unless-end [] last x = refl
unless-end (b ∷ front) last x = refl

module _ (name text : List ℕ) (word : is_graphic name ≡ true)
    (usable : is_usable_softdep text ≡ true) where
  characters : list_all is_ascii_graphic name ≡ true
  unfolding is_graphic
  characters = (and_parts (not (length name == 0)) (list_all is_ascii_graphic name) word).1

  solid : list_all is_solid name ≡ true
  solid = weaker is_ascii_graphic is_solid graphic-solid name characters

  tests : ((list_all is_printable text && not (list_all (λ b. b == 32) text)) ≡ true)
      × (not (ends_with nat_eq text (92 ∷ [])) ≡ true)
  unfolding is_usable_softdep
  tests
      = and_parts (list_all is_printable text && not (list_all (λ b. b == 32) text))
      (not (ends_with nat_eq text (92 ∷ []))) usable

  printable : list_all is_printable text ≡ true
  printable
      = (and_parts (list_all is_printable text) (not (list_all (λ b. b == 32) text)) tests.0).0

  some : list_all (λ b. b == 32) text ≡ false
  some =
      not-true (list_all (λ b. b == 32) text)
      (and_parts (list_all is_printable text) (not (list_all (λ b. b == 32) text)) tests.0).1

  unmarked : ends_with nat_eq text (92 ∷ []) ≡ false
  unmarked = not-true (ends_with nat_eq text (92 ∷ [])) tests.1

  p : Parts text
  p = parts text printable some

  abbrev kept : List ℕ
  kept = p.front ++ p.last ∷ []

  abbrev line : List ℕ
  line = codes "softdep " ++ (name ++ (codes " " ++ text))

  abbrev front : List ℕ
  front = codes "softdep " ++ (name ++ 32 ∷ [])

  line-parts : line ≡ front ++ text
  line-parts = ap (λ bytes. codes "softdep " ++ bytes) (sym (append_assoc name (32 ∷ []) text))

  long : 0 < length text
  long =
      let e : length text ≡ length kept + length p.space
      = ap length p.whole ∙ length-append kept p.space in
      let k : length kept ≡ length p.front + 1 = length-append p.front (p.last ∷ []) in
      omega (arith, e, k)

  line-alone : goes_on line ≡ false
  line-alone = ap goes_on line-parts ∙ ends-last front text 92 nat_eq long ∙ unmarked

  line-one : list_all (λ b. not (b == 10)) line ≡ true
  line-one =
      list_all-append (λ b. not (b == 10)) name (32 ∷ text)
      ∙ and_from _ _ (weaker is_ascii_graphic (λ b. not (b == 10)) graphic-one name characters)
      (weaker is_printable (λ b. not (b == 10)) printable-one text printable)

  -- the line up to its last byte that isn't a space
  abbrev trimmed_line : List ℕ
  trimmed_line = codes "softdep" ++ 32 ∷ (name ++ 32 ∷ kept)

  line-trimmed : trimmed line ≡ trimmed_line
  unfolding trimmed
  line-trimmed =
      ap trimmed_end
      (trim-other 115 (codes "oftdep " ++ (name ++ 32 ∷ text)) refl
      ∙ line-parts ∙ ap (λ t. front ++ t) p.whole
      ∙ sym (append_assoc front kept p.space)
      ∙ ap (λ t. t ++ p.space) (sym (append_assoc front p.front (p.last ∷ []))))
      ∙ trim-end (front ++ p.front) p.last p.space p.other p.spaces
      ∙ append_assoc front p.front (p.last ∷ [])
      ∙ ap (λ bytes. codes "softdep " ++ bytes) (append_assoc name (32 ∷ []) kept)

  -- what follows the command, and what follows the name
  abbrev rest : List ℕ
  rest = name ++ 32 ∷ kept

  rest-trimmed : trimmed rest ≡ rest
  unfolding trimmed is_graphic
  rest-trimmed = go name word solid
    where
      go : (n : List ℕ) → (not (length n == 0) && list_all is_ascii_graphic n) ≡ true
          → list_all is_solid n ≡ true
          → trimmed_end (trimmed_start (n ++ 32 ∷ kept)) ≡ n ++ 32 ∷ kept
      go [] shown all = absurd (true≢false (sym shown))
      go (b ∷ n) shown all =
          let h = and_parts (is_solid b) (list_all is_solid n) all in
          ap trimmed_end
          (trim-other b (n ++ 32 ∷ kept) (not-true (is_space b) h.0)
          ∙ sym (append_assoc (b ∷ n) (32 ∷ p.front) (p.last ∷ [])))
          ∙ trim-none (b ∷ n ++ 32 ∷ p.front) p.last p.other
          ∙ append_assoc (b ∷ n) (32 ∷ p.front) (p.last ∷ [])

  after-command : rest_after_word trimmed_line ≡ rest
  after-command = rest-after (codes "softdep") 32 rest refl refl ∙ rest-trimmed

  end : (front : List ℕ) × (trimmed_start kept ≡ front ++ p.last ∷ [])
  end = trim-to-end p.front p.last p.other

  abbrev names_text : List ℕ
  names_text = end.0 ++ p.last ∷ []

  after-name : rest_after_word rest ≡ names_text
  unfolding trimmed
  after-name =
      rest-after name 32 kept solid refl ∙ ap trimmed_end end.1 ∙ trim-none end.0 p.last p.other

  same-words : words names_text ≡ words text
  same-words
      = ap words (sym end.1) ∙ words-start kept ∙ sym (words-end kept p.space p.spaces)
      ∙ ap words (sym p.whole)

  abbrev stated_by : List ℕ → List (List ℕ) → Rule
  stated_by word ws =
      rules.Softdep (underscored word) (map underscored (words_after (codes "pre:") ws))
      (map underscored (words_after (codes "post:") ws))

  line-rule : softdep_rule rest ≡ Some (softdep_of name text)
  unfolding softdep_rule
  line-rule =
      ap (λ list. unless_empty list (Some (stated_by (first_word rest) (words list)))) after-name
      ∙ unless-end end.0 p.last (Some (stated_by (first_word rest) (words names_text)))
      ∙ ap (λ ws. Some (stated_by (first_word rest) ws)) same-words
      ∙ ap (λ n. Some (stated_by n (words text))) (first-word name 32 kept solid refl)

  rule-at : rule_of trimmed_line ≡ Some (softdep_of name text)
  unfolding rule_of command_of
  rule-at =
      ap (λ w. option_and_then (λ command. rule_of_command command (rest_after_word trimmed_line))
      (command_of w)) (first-word (codes "softdep") 32 rest refl refl)
      ∙ ap softdep_rule after-command ∙ line-rule

  pub line-states : States line (softdep_of name text)
  line-states = record {
    one = line-one;
    alone = line-alone;
    some = ap is_statement line-trimmed;
    read = ap rule_of line-trimmed ∙ rule-at;
  }

heading-is : IsHeading (codes "# Soft dependencies extracted from modules themselves.")
unfolding trimmed
heading-is = record { one = refl; alone = refl; nothing = refl }

-- ---- the lines of a tree

state-append : (a b : List (List ℕ)) (ra rb : List Rule) → AllState a ra → AllState b rb
    → AllState (a ++ b) (ra ++ rb)
state-append [] b [] rb first later = later
state-append [] b (rule ∷ ra) rb first later = absurd first
state-append (text ∷ a) b [] rb first later = absurd first
state-append (text ∷ a) b (rule ∷ ra) rb first later =
    (first.0, state-append a b ra rb first.1 later)

abbrev line_by : List ℕ → List ℕ → List ℕ
line_by name text = codes "softdep " ++ (name ++ (codes " " ++ text))

module-states : (name : List ℕ) (texts : List (List ℕ)) → is_graphic name ≡ true
    → AllState (map (line_by name) (filter is_usable_softdep texts))
    (map (softdep_of name) (filter is_usable_softdep texts))
module-states name [] word = tt
module-states name (text ∷ texts) word =
    go (is_usable_softdep text) refl (module-states name texts word)
  where
    go : (v : Bool) → is_usable_softdep text ≡ v
        → AllState (map (line_by name) (filter is_usable_softdep texts))
        (map (softdep_of name) (filter is_usable_softdep texts))
        → AllState (map (line_by name)
        (cond v (text ∷ filter is_usable_softdep texts) (filter is_usable_softdep texts)))
        (map (softdep_of name)
        (cond v (text ∷ filter is_usable_softdep texts) (filter is_usable_softdep texts)))
    go true usable rest = (line-states name text word usable, rest)
    go false usable rest = rest

tree-states : (tree : List Facts) → ((f : Facts) → Member f tree → IsTreeModule f)
    → AllState (flat_map softdep_lines tree) (softdep_rules tree)
tree-states [] each = tt
tree-states (f ∷ tree) each =
    state-append (softdep_lines f) (flat_map softdep_lines tree)
    (map (softdep_of f.name) (softdeps_of f)) (softdep_rules tree)
    (module-states f.name f.softdeps (each f (inl refl)).name)
    (tree-states tree (λ g in'. each g (inr in')))

-- modules.softdep as a file of configuration
pub softdep-understood : (tree : List Facts) (path : List ℕ) → IsTree tree
    → rules_of (record { path = path; bytes = softdep_text tree } ∷ []) ≡ Ok (softdep_rules tree)
unfolding softdep_text
softdep-understood tree path is_tree =
    file-states path (codes "# Soft dependencies extracted from modules themselves.")
    (flat_map softdep_lines tree) (softdep_rules tree) heading-is
    (tree-states tree (λ f in'. all-member IsTreeModule f tree is_tree.modules in'))
