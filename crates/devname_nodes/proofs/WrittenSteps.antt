-- The text of nodes, line by line, and what is read of it.
use Rattle.std.proofs.Common.{◌≡◌, ℕ, zero, suc, ◌+◌, ◌%◌, ◌<◌, ◌≤◌, ◌^◌, Bool, true, false, not}
use Rattle.std.proofs.Common.{◌&&◌, List, [], ◌∷◌, ◌++◌, length, map, drop, take, get_or, eqb, cond}
use Rattle.std.proofs.Common.{Option, Some, None, option_map, Ok, All, refl, sym, ap, subst, ◌∙◌}
use Rattle.std.proofs.Common.{append_assoc, arith}
use Rattle.std.specs.Prelude.{codes, nat_lt, nat_le, option_and_then, is_some}
use Rattle.std.specs.List.{list_all, position_or_len, before_first, after_first, filter_map}
use Rattle.std.specs.List.{cons_option}
use Rattle.std.specs.Char.{is_ascii_graphic, is_digit, digit_value}
use Rattle.std.specs.Fmt.{decimal}
use Rattle.std.specs.Str.Parse.{AllDigits, digits_value}
use Rattle.std.proofs.lemmas.Bool.{lt-ltb}
use Rattle.std.proofs.lemmas.Bool.Decides.{nat_tests}
use Rattle.std.proofs.lemmas.Fmt.{decimal_is_IsNumeral, decimal_by_steps, length-decimal-le}
use Rattle.std.proofs.lemmas.Fmt.{decimal_nonempty, first_decimal, decimal_digit}
use Rattle.std.proofs.lemmas.List.Folds.{list_all-append}
use Rattle.std.proofs.lemmas.List.Elements.{All-nil, All-cons, All-head, All-tail, All-push}
use Rattle.std.proofs.Math.Seq.{take-append_seam, drop-append-add}
use Rattle.km_names.specs.Ascii.{is_graphic}
use Rattle.km_names.specs.First.{first}
use Rattle.km_names.specs.Lines.{lines_of}
use Rattle.module_facts.specs.declared.facts.Facts.{Facts}
use Rattle.unmet_file.specs.Line.{three_text}
use Rattle.unmet_file.proofs.WordSteps.{three-back}
use Rattle.unmet_file.proofs.TextLines.{line-first, no-lines, one-three}
use Rattle.devname_nodes.specs.declared.alias.DeviceNumber.{DeviceNumber}
use Rattle.devname_nodes.specs.declared.node.Node.{Node}
use Rattle.devname_nodes.specs.Numbers.{number, has_leading_zero, plain_number, plain_numbers}
use Rattle.devname_nodes.specs.Numbers.{numbers}
use Rattle.km_names.specs.Prefix.{rest_after}
use Rattle.devname_nodes.specs.Nodes.{word, device_of, numbered, number_of}
use Rattle.devname_nodes.specs.Nodes.{is_comment, node_by, node_of, nodes_of}
use Rattle.devname_nodes.specs.Line.{node_line, letter, kind_of, device_word, node_of_words}
use Rattle.devname_nodes.specs.Line.{line_node, is_ignored, IsNode}
use Rattle.devname_nodes.specs.File.{heading, node_lines, nodes_text, stated_nodes, read_of}
use Rattle.devname_nodes.specs.File.{AreReadBack}
use Rattle.devname_nodes.proofs.LineSteps.{place_at, place-begins, place-none, place-passed}
use Rattle.devname_nodes.proofs.LineSteps.{place-ignored, all-read}

-- ---- numbers

abbrev IsDigit : ℕ → Type 0
IsDigit b = (48 ≤ b) × (b ≤ 57)

decimal-digits : (n : ℕ) → n < 2 ^ 64 → All IsDigit (decimal n)
decimal-digits n low =
    decimal_by_steps (λ _ ds. All IsDigit ds)
    (λ k small. All-cons IsDigit (48 + k) [] (omega arith, omega arith) (All-nil IsDigit))
    (λ k ds _ before. All-push IsDigit ds (48 + k % 10) before (omega arith, omega arith))
    n low

wide : (n : ℕ) → n < 2 ^ 32 → n < 2 ^ 64
wide n low = omega arith

tested-digits : (ds : List ℕ) → AllDigits 10 ds → list_all (λ b. is_digit b 10) ds ≡ true
tested-digits [] all = refl
tested-digits (d ∷ ds) all =
    ap (λ b. b && list_all (λ c. is_digit c 10) ds) (lt-ltb (digit_value d) 10 all.0)
    ∙ tested-digits ds all.1

some-length : (n : ℕ) → 0 < n → eqb n 0 ≡ false
some-length n h = grind (arith, nat_tests)

few-length : (n : ℕ) → n ≤ 10 → nat_le n 10 ≡ true
few-length n h = grind (arith, nat_tests)

small-number : (n : ℕ) → n < 2 ^ 32 → nat_lt n (2 ^ 32) ≡ true
small-number n h = grind (arith, nat_tests)

number-back : (n : ℕ) → n < 2 ^ 32 → number (decimal n) ≡ Some n
unfolding number
number-back n low =
    let numeral = decimal_is_IsNumeral n (wide n low) in
    let some : eqb (length (decimal n)) 0 ≡ false
    = some-length (length (decimal n)) (decimal_nonempty n (wide n low)) in
    let few : nat_le (length (decimal n)) 10 ≡ true
    = few-length (length (decimal n))
    (length-decimal-le 10 n (omega arith) (omega arith) (wide n low)) in
    let digits : list_all (λ b. is_digit b 10) (decimal n) ≡ true
    = tested-digits (decimal n) numeral.0.1 in
    let small : nat_lt (digits_value 10 (decimal n)) (2 ^ 32) ≡ true
    = ap (λ v. nat_lt v (2 ^ 32)) numeral.1 ∙ small-number n low in
    ap (λ b. cond (not b
    && nat_le (length (decimal n)) 10
    && list_all (λ c. is_digit c 10) (decimal n)
    && nat_lt (digits_value 10 (decimal n)) (2 ^ 32)) (Some (digits_value 10 (decimal n)))
    None) some
    ∙ ap (λ b. cond
    (b
    && list_all (λ c. is_digit c 10) (decimal n)
    && nat_lt (digits_value 10 (decimal n)) (2 ^ 32)) (Some (digits_value 10 (decimal n)))
    None) few
    ∙ ap (λ b. cond (b && nat_lt (digits_value 10 (decimal n)) (2 ^ 32))
    (Some (digits_value 10 (decimal n))) None) digits
    ∙ ap (λ b. cond b (Some (digits_value 10 (decimal n))) None) small
    ∙ ap (λ v. Some v) numeral.1

no-zero : (a b : Bool) → b ≡ false → (a && b) ≡ false
no-zero true b h = h
no-zero false b h = refl

not-zero : (b : ℕ) → 48 < b → eqb b 48 ≡ false
not-zero b h = grind (arith, nat_tests)

no-leading-zero : (n : ℕ) → n < 2 ^ 32 → has_leading_zero (decimal n) ≡ false
no-leading-zero zero low = ap has_leading_zero (decimal_digit 0 (omega arith))
no-leading-zero (suc n) low =
    no-zero (nat_lt 1 (length (decimal (suc n)))) (eqb (get_or (decimal (suc n)) 0 0) 48)
    (not-zero (get_or (decimal (suc n)) 0 0)
    (first_decimal (suc n) (omega arith) (wide (suc n) low)))

plain-back : (n : ℕ) → n < 2 ^ 32 → plain_number (decimal n) ≡ Some n
plain-back n low =
    ap (λ b. cond b None (number (decimal n))) (no-leading-zero n low) ∙ number-back n low

not-colon : (b : ℕ) → IsDigit b → eqb b 58 ≡ false
not-colon b h = grind (arith, nat_tests)

seam : (ds others : List ℕ) → All IsDigit ds
    → position_or_len (λ b. eqb b 58) (ds ++ 58 ∷ others) ≡ length ds
seam [] others all = refl
seam (d ∷ ds) others all =
    ap (λ v. cond (not v) (1 + position_or_len (λ c. eqb c 58) (ds ++ 58 ∷ others)) 0)
    (not-colon d (All-head IsDigit d ds all))
    ∙ ap (λ n. 1 + n) (seam ds others (All-tail IsDigit d ds all))
    ∙ (omega arith)

numbers-back : (m n : ℕ) → m < 2 ^ 32 → n < 2 ^ 32
    → plain_numbers (decimal m ++ 58 ∷ decimal n) ≡ Some (m, n)
numbers-back m n low small =
    let text : List ℕ = decimal m ++ 58 ∷ decimal n in
    let at = seam (decimal m) (decimal n) (decimal-digits m (wide m low)) in
    let before : before_first (λ b. eqb b 58) text ≡ decimal m
    = ap (λ k. take k text) at ∙ take-append_seam (decimal m) (58 ∷ decimal n) in
    let after : after_first (λ b. eqb b 58) text ≡ decimal n
    = ap (λ k. drop (k + 1) text) at ∙ drop-append-add (decimal m) (58 ∷ decimal n) 1 in
    ap (λ t. option_and_then
    (λ major. option_map (λ minor. (major, minor))
    (plain_number (after_first (λ b. eqb b 58) text))) (plain_number t)) before
    ∙ ap (λ o. option_and_then
    (λ major. option_map (λ minor. (major, minor))
    (plain_number (after_first (λ b. eqb b 58) text))) o) (plain-back m low)
    ∙ ap (λ t. option_map (λ minor. (m, minor)) (plain_number t)) after
    ∙ ap (λ o. option_map (λ minor. (m, minor)) o) (plain-back n small)

-- ---- a line

letter-back : (block : Bool) → kind_of (letter block) ≡ Some block
letter-back true = refl
letter-back false = refl

digit-shown : (b : ℕ) → IsDigit b → is_ascii_graphic b ≡ true
digit-shown b h = grind (arith, nat_tests)

digits-shown : (ds : List ℕ) → All IsDigit ds → list_all is_ascii_graphic ds ≡ true
digits-shown [] all = refl
digits-shown (d ∷ ds) all =
    ap (λ b. b && list_all is_ascii_graphic ds) (digit-shown d (All-head IsDigit d ds all))
    ∙ digits-shown ds (All-tail IsDigit d ds all)

letter-shown : (block : Bool) → is_ascii_graphic (letter block) ≡ true
letter-shown true = refl
letter-shown false = refl

last_word : Node → List ℕ
last_word n = letter n.block ∷ (decimal n.major ++ (codes ":" ++ decimal n.minor))

word-shown : (n : Node) → n.major < 2 ^ 32 → n.minor < 2 ^ 32 → is_graphic (last_word n) ≡ true
unfolding is_graphic last_word
word-shown n low small =
    let major = digits-shown (decimal n.major) (decimal-digits n.major (wide n.major low)) in
    let minor = digits-shown (decimal n.minor) (decimal-digits n.minor (wide n.minor small)) in
    let rest = decimal n.major ++ (codes ":" ++ decimal n.minor) in
    ap (λ b. not b && (is_ascii_graphic (letter n.block) && list_all is_ascii_graphic rest))
    (some-length (suc (length rest)) (omega arith))
    ∙ ap (λ b. b && list_all is_ascii_graphic rest) (letter-shown n.block)
    ∙ list_all-append is_ascii_graphic (decimal n.major) (58 ∷ decimal n.minor)
    ∙ ap (λ b. b && list_all is_ascii_graphic (decimal n.minor)) major
    ∙ minor

line-back : (n : Node) → IsNode n → line_node (node_line n) ≡ Some n
unfolding line_node node_line last_word
line-back n good =
    let last : List ℕ = last_word n in
    let rest : List ℕ = decimal n.major ++ (codes ":" ++ decimal n.minor) in
    let made
    = λ (k : Bool × (ℕ × ℕ)). let node : Node
    = record
    { «module» = n.module; device = n.device; block = k.0; major = k.1.0; minor = k.1.1 } in
    node in
    ap (λ o. option_and_then node_of_words o)
    (three-back n.module n.device last good.module good.device
    (word-shown n good.major good.minor))
    ∙ ap (λ b. cond b None (option_map made (device_word last))) good.plain
    ∙ ap (λ o. option_map made
    (option_and_then (λ block. option_map (λ m. (block, m)) (plain_numbers rest)) o))
    (letter-back n.block)
    ∙ ap (λ o. option_map made (option_map (λ m. (n.block, m)) o))
    (numbers-back n.major n.minor good.major good.minor)

-- ---- a file

node-first : (n : Node) (others : List ℕ) → IsNode n
    → lines_of (node_line n ++ 10 ∷ others) ≡ node_line n ∷ lines_of others
unfolding node_line last_word
node-first n others good =
    line-first (three_text n.module n.device (last_word n)) others
    (one-three n.module n.device (last_word n) good.module good.device
    (word-shown n good.major good.minor))

lines-first : (n : Node) (nodes : List Node) → IsNode n
    → lines_of (node_lines (n ∷ nodes)) ≡ node_line n ∷ lines_of (node_lines nodes)
lines-first n nodes good =
    ap lines_of (append_assoc (node_line n) (10 ∷ []) (node_lines nodes))
    ∙ node-first n (node_lines nodes) good

no-text : lines_of (node_lines []) ≡ []
no-text = no-lines [] refl

stated-back : (nodes : List Node) → All IsNode nodes
    → filter_map line_node (lines_of (node_lines nodes)) ≡ nodes
stated-back [] all = ap (filter_map line_node) no-text
stated-back (n ∷ nodes) all =
    let good = All-head IsNode n nodes all in
    ap (filter_map line_node) (lines-first n nodes good)
    ∙ ap (λ o. cons_option o (filter_map line_node (lines_of (node_lines nodes))))
    (line-back n good)
    ∙ ap (λ ns. n ∷ ns) (stated-back nodes (All-tail IsNode n nodes all))

none-bad : (file : List ℕ) (k : ℕ) (nodes : List Node) → All IsNode nodes
    → place_at file k (lines_of (node_lines nodes)) ≡ None
none-bad file k [] all = ap (place_at file k) no-text ∙ place-none file k
none-bad file k (n ∷ nodes) all =
    let good = All-head IsNode n nodes all in
    ap (place_at file k) (lines-first n nodes good)
    ∙ place-passed file k (node_line n) (lines_of (node_lines nodes)) n (sym (line-back n good))
    ∙ none-bad file (k + 1) nodes (All-tail IsNode n nodes all)

heading-ignored : is_ignored heading ≡ true
heading-ignored = refl

heading-states : line_node heading ≡ None
unfolding line_node is_graphic
heading-states = refl

text-lines : (nodes : List Node)
    → lines_of (nodes_text nodes) ≡ heading ∷ lines_of (node_lines nodes)
unfolding nodes_text
text-lines nodes = line-first heading (node_lines nodes) refl

file-back : (file : List ℕ) (nodes : List Node) → All IsNode nodes
    → read_of file (nodes_text nodes) ≡ Ok nodes
unfolding stated_nodes
file-back file nodes all =
    all-read file (nodes_text nodes) nodes
    (sym (place-begins file (nodes_text nodes))
    ∙ ap (place_at file 1) (text-lines nodes)
    ∙ place-ignored file 1 heading (lines_of (node_lines nodes)) heading-ignored
    ∙ none-bad file 2 nodes all)
    (ap (filter_map line_node) (text-lines nodes)
    ∙ ap (λ o. cons_option o (filter_map line_node (lines_of (node_lines nodes)))) heading-states
    ∙ stated-back nodes all)

-- ---- the nodes of a tree

first-step : {X : Type 0} (P : X → Type 0) (o : Option X) (others : List (Option X)) (x : X)
    → ((y : X) → o ≡ Some y → P y) → (first others ≡ Some x → P x) → first (o ∷ others) ≡ Some x
    → P x
first-step {X} P None others x one later h = later h
first-step {X} P (Some y) others x one later h = one x h

first-gives : {X : Type 0} (P : X → Type 0) (f : List ℕ → Option X)
    → ((a : List ℕ) (x : X) → f a ≡ Some x → P x) → (texts : List (List ℕ)) (x : X)
    → first (map f texts) ≡ Some x → P x
first-gives {X} P f each [] x is = absurd (cc)
first-gives {X} P f each (a ∷ texts) x is =
    first-step P (f a) (map f texts) x (each a) (first-gives P f each texts x) is

device-word : (alias device : List ℕ) → device_of alias ≡ Some device → is_graphic device ≡ true
device-word alias device is = go (rest_after (codes "devname:") alias) is
  where
    named : (text : List ℕ) (b : Bool) → is_graphic text ≡ b → cond b (Some text) None ≡ Some device
        → is_graphic device ≡ true
    named text true e h = let same : text ≡ device = cc in ap is_graphic (sym same) ∙ e
    named text false e h = absurd (cc)

    go : (o : Option (List ℕ)) → option_and_then word o ≡ Some device → is_graphic device ≡ true
    go None h = absurd (cc)
    go (Some text) h = named text (is_graphic text) refl h

below-test : (n : ℕ) → nat_lt n (2 ^ 32) ≡ true → n < 2 ^ 32
below-test n h = grind (arith, nat_tests)

number-small : (text : List ℕ) (n : ℕ) → number text ≡ Some n → n < 2 ^ 32
unfolding number
number-small text n is =
    go (not (eqb (length text) 0) && nat_le (length text) 10 && list_all (λ b. is_digit b 10) text)
    (nat_lt (digits_value 10 text) (2 ^ 32)) refl is
  where
    go : (a b : Bool) → nat_lt (digits_value 10 text) (2 ^ 32) ≡ b
        → cond (a && b) (Some (digits_value 10 text)) None ≡ Some n → n < 2 ^ 32
    go true true e h
        = let same : digits_value 10 text ≡ n
        = cc in subst (λ k. k < 2 ^ 32) same (below-test (digits_value 10 text) e)
    go true false e h = absurd (cc)
    go false b e h = absurd (cc)

numbers-small : (text : List ℕ) (n : ℕ × ℕ) → numbers text ≡ Some n
    → (n.0 < 2 ^ 32) × (n.1 < 2 ^ 32)
numbers-small text n is =
    go (number (before_first (λ b. eqb b 45) text)) (number (after_first (λ b. eqb b 45) text)) refl
    refl is
  where
    go : (a b : Option ℕ) → number (before_first (λ b. eqb b 45) text) ≡ a
        → number (after_first (λ b. eqb b 45) text) ≡ b
        → option_and_then (λ major. option_map (λ minor. (major, minor)) b) a ≡ Some n
        → (n.0 < 2 ^ 32) × (n.1 < 2 ^ 32)
    go None b e f h = absurd (cc)
    go (Some x) None e f h = absurd (cc)
    go (Some x) (Some y) e f h =
        let same : (let p : ℕ × ℕ = (x, y) in p) ≡ n = cc in
        subst (λ (p : ℕ × ℕ). (p.0 < 2 ^ 32) × (p.1 < 2 ^ 32)) same
        (number-small _ x e, number-small _ y f)

abbrev IsSmall : DeviceNumber → Type 0
IsSmall k = (k.major < 2 ^ 32) × (k.minor < 2 ^ 32)

abbrev numbered_by : Bool → ℕ × ℕ → DeviceNumber
numbered_by block n = record { block = block; major = n.0; minor = n.1 }

numbered-small : (block : Bool) (o : Option (List ℕ)) (k : DeviceNumber) → numbered block o ≡ Some k
    → IsSmall k
numbered-small block None k is = absurd (cc)
numbered-small block (Some text) k is = go (numbers text) refl is
  where
    go : (o : Option (ℕ × ℕ)) → numbers text ≡ o → option_map (numbered_by block) o ≡ Some k
        → IsSmall k
    go None e h = absurd (cc)
    go (Some n) e h
        = let same : numbered_by block n ≡ k
        = cc in subst IsSmall same (numbers-small text n e)

number-of-small : (alias : List ℕ) (k : DeviceNumber) → number_of alias ≡ Some k → IsSmall k
number-of-small alias k is = go (is_some (rest_after (codes "char-major-") alias)) is
  where
    go : (b : Bool)
        → cond b (numbered false (rest_after (codes "char-major-") alias))
        (numbered true (rest_after (codes "block-major-") alias))
        ≡ Some k
        → IsSmall k
    go true h = numbered-small false (rest_after (codes "char-major-") alias) k h
    go false h = numbered-small true (rest_after (codes "block-major-") alias) k h

node-good : (f : Facts) (n : Node) → is_graphic f.name ≡ true → node_of f ≡ Some n → IsNode n
unfolding node_of
node-good f n name is =
    go (is_comment f.name) (first (map device_of f.aliases)) (first (map number_of f.aliases)) refl
    refl refl is
  where
    go : (b : Bool) (d : Option (List ℕ)) (k : Option DeviceNumber) → is_comment f.name ≡ b
        → first (map device_of f.aliases) ≡ d → first (map number_of f.aliases) ≡ k
        → cond b None (node_by f.name d k) ≡ Some n → IsNode n
    go true d k e g h i = absurd (cc)
    go false None k e g h i = absurd (cc)
    go false (Some d) None e g h i = absurd (cc)
    go false (Some d) (Some k) e g h i =
        let made : Node
        = record
        { «module» = f.name; device = d; block = k.block; major = k.major; minor = k.minor }
        in
        let same : made ≡ n = cc in
        let small = first-gives IsSmall number_of number-of-small f.aliases k h in
        subst IsNode same (record {
          «module» = name;
          plain = e;
          device = first-gives (λ x. is_graphic x ≡ true) device_of device-word f.aliases d g;
          major = small.0;
          minor = small.1;
        })

all-with : (o : Option Node) (nodes : List Node) → ((n : Node) → o ≡ Some n → IsNode n)
    → All IsNode nodes → All IsNode (cons_option o nodes)
all-with None nodes one all = all
all-with (Some n) nodes one all = All-cons IsNode n nodes (one n refl) all

tree-nodes : (tree : List Facts) → All (λ (f : Facts). is_graphic f.name ≡ true) tree
    → All IsNode (nodes_of tree)
unfolding nodes_of
tree-nodes [] all = All-nil IsNode
tree-nodes (f ∷ tree) all =
    all-with (node_of f) (filter_map node_of tree)
    (λ n is. node-good f n (All-head (λ (g : Facts). is_graphic g.name ≡ true) f tree all) is)
    (tree-nodes tree (All-tail (λ (g : Facts). is_graphic g.name ≡ true) f tree all))

pub read-back : AreReadBack
read-back file tree all = file-back file (nodes_of tree) (tree-nodes tree all)
