-- Small maps, with their files written by hand from the format, and files that a reader refuses.
use Rattle.std.specs.Prelude.{ℕ, List, [], ◌∷◌, ◌++◌, codes}
use Rattle.std.specs.FinMap.{empty, from_sorted}
use Rattle.index_format.specs.Map.{KeyValues}
use Rattle.index_format.specs.Tree.{Entry}

-- The start of each file: the magic and the version.
abbrev pub head : List ℕ
head = 0xb0 ∷ 0x07 ∷ 0xf4 ∷ 0x57 ∷ 0x00 ∷ 0x02 ∷ 0x00 ∷ 0x01 ∷ []

-- The map without keys.
abbrev pub no_keys : KeyValues
no_keys = empty

-- The file of the map without keys. Its root has no field, and is at 12.
abbrev pub no_keys_file : List ℕ
no_keys_file = head ++ (0 ∷ 0 ∷ 0 ∷ 0x0c ∷ [])

-- A key with one value.
abbrev pub one : List ℕ → ℕ → List ℕ → Entry
one key priority text = (key, (priority, text) ∷ [])

-- Five keys; "on" begins two of the others. Each has the text "x".
abbrev pub five_entries : List Entry
five_entries =
    one (codes "ask") 0 (codes "x")
    ∷ one (codes "ate") 1 (codes "x")
    ∷ one (codes "on") 2 (codes "x")
    ∷ one (codes "once") 3 (codes "x")
    ∷ one (codes "one") 4 (codes "x")
    ∷ []

abbrev pub five_keys : KeyValues
five_keys = from_sorted five_entries

abbrev pub five_keys_file : List ℕ
five_keys_file =
    head ++ (0x20 ∷ 0 ∷ 0 ∷ 0x5e ∷ [])
    -- 12: "k" and the value of "ask"
    ++ (0x6b ∷ 0 ∷ 0 ∷ 0 ∷ 0 ∷ 1 ∷ 0 ∷ 0 ∷ 0 ∷ 0 ∷ 0x78 ∷ 0 ∷ [])
    -- 24: "e" and the value of "ate"
    ++ (0x65 ∷ 0 ∷ 0 ∷ 0 ∷ 0 ∷ 1 ∷ 0 ∷ 0 ∷ 0 ∷ 1 ∷ 0x78 ∷ 0 ∷ [])
    -- 36: "s" to "t"
    ++ (0x73 ∷ 0x74 ∷ 0xc0 ∷ 0 ∷ 0 ∷ 0x0c ∷ 0xc0 ∷ 0 ∷ 0 ∷ 0x18 ∷ [])
    -- 46: "e" and the value of "once"
    ++ (0x65 ∷ 0 ∷ 0 ∷ 0 ∷ 0 ∷ 1 ∷ 0 ∷ 0 ∷ 0 ∷ 3 ∷ 0x78 ∷ 0 ∷ [])
    -- 58: the value of "one"
    ++ (0 ∷ 0 ∷ 0 ∷ 1 ∷ 0 ∷ 0 ∷ 0 ∷ 4 ∷ 0x78 ∷ 0 ∷ [])
    -- 68: "n", "c" to "e" and the value of "on"
    ++ (0x6e ∷ 0 ∷ 0x63 ∷ 0x65 ∷ 0xc0 ∷ 0 ∷ 0 ∷ 0x2e ∷ 0 ∷ 0 ∷ 0 ∷ 0 ∷ 0x40 ∷ 0 ∷ 0 ∷ 0x3a ∷ 0 ∷ 0
    ∷ 0 ∷ 1 ∷ 0 ∷ 0 ∷ 0 ∷ 2 ∷ 0x78 ∷ 0 ∷ [])
    -- 94: the root, "a" to "o", with no child for the thirteen bytes between them
    ++ (0x61 ∷ 0x6f ∷ 0x20 ∷ 0 ∷ 0 ∷ 0x24 ∷ [])
    ++ (0 ∷ 0 ∷ 0 ∷ 0 ∷ 0 ∷ 0 ∷ 0 ∷ 0 ∷ 0 ∷ 0 ∷ 0 ∷ 0 ∷ 0 ∷ 0 ∷ 0 ∷ 0 ∷ 0 ∷ 0 ∷ 0 ∷ 0 ∷ 0 ∷ 0 ∷ 0
    ∷ 0 ∷ 0 ∷ 0 ∷ [])
    ++ (0 ∷ 0 ∷ 0 ∷ 0 ∷ 0 ∷ 0 ∷ 0 ∷ 0 ∷ 0 ∷ 0 ∷ 0 ∷ 0 ∷ 0 ∷ 0 ∷ 0 ∷ 0 ∷ 0 ∷ 0 ∷ 0 ∷ 0 ∷ 0 ∷ 0 ∷ 0
    ∷ 0 ∷ 0 ∷ 0 ∷ [])
    ++ (0xe0 ∷ 0 ∷ 0 ∷ 0x44 ∷ [])

-- Two modules, one depending on the other, with their lines of modules.dep.
abbrev pub two_modules_entries : List Entry
two_modules_entries =
    one (codes "a") 0 (codes "kernel/a.ko:")
    ∷ one (codes "b") 1 (codes "kernel/b.ko: kernel/a.ko")
    ∷ []

abbrev pub two_modules : KeyValues
two_modules = from_sorted two_modules_entries

abbrev pub two_modules_file : List ℕ
two_modules_file =
    head ++ (0x20 ∷ 0 ∷ 0 ∷ 0x42 ∷ [])
    -- 12: the value of "a"
    ++ (0 ∷ 0 ∷ 0 ∷ 1 ∷ 0 ∷ 0 ∷ 0 ∷ 0 ∷ []) ++ codes "kernel/a.ko:" ++ (0 ∷ [])
    -- 33: the value of "b"
    ++ (0 ∷ 0 ∷ 0 ∷ 1 ∷ 0 ∷ 0 ∷ 0 ∷ 1 ∷ []) ++ codes "kernel/b.ko: kernel/a.ko" ++ (0 ∷ [])
    -- 66: the root, "a" to "b"
    ++ (0x61 ∷ 0x62 ∷ 0x40 ∷ 0 ∷ 0 ∷ 0x0c ∷ 0x40 ∷ 0 ∷ 0 ∷ 0x21 ∷ [])

-- The root at 12 has a child that is after it, at 18.
abbrev pub child_after_parent : List ℕ
child_after_parent =
    head
    ++ (0x20 ∷ 0 ∷ 0 ∷ 0x0c ∷ 0x61 ∷ 0x61 ∷ 0x40 ∷ 0 ∷ 0 ∷ 0x12 ∷ 0 ∷ 0 ∷ 0 ∷ 1 ∷ 0 ∷ 0 ∷ 0 ∷ 0
    ∷ 0x78 ∷ 0 ∷ [])

-- Two offsets lead to the node at 12.
abbrev pub node_reached_twice : List ℕ
node_reached_twice =
    head ++ (0x20 ∷ 0 ∷ 0 ∷ 0x16 ∷ 0 ∷ 0 ∷ 0 ∷ 1 ∷ 0 ∷ 0 ∷ 0 ∷ 0 ∷ 0x78 ∷ 0 ∷ [])
    ++ (0x61 ∷ 0x62 ∷ 0x40 ∷ 0 ∷ 0 ∷ 0x0c ∷ 0x40 ∷ 0 ∷ 0 ∷ 0x0c ∷ [])

-- The text of the root's value has no NUL.
abbrev pub value_cut_off : List ℕ
value_cut_off = head ++ (0x40 ∷ 0 ∷ 0 ∷ 0x0c ∷ 0 ∷ 0 ∷ 0 ∷ 1 ∷ 0 ∷ 0 ∷ 0 ∷ 0 ∷ 0x78 ∷ [])

-- The root at 12 is its own child.
abbrev pub child_at_parent : List ℕ
child_at_parent = head ++ (0x20 ∷ 0 ∷ 0 ∷ 0x0c ∷ 0x61 ∷ 0x61 ∷ 0x20 ∷ 0 ∷ 0 ∷ 0x0c ∷ [])

-- The root at 13 has a child at 12 without a field.
abbrev pub child_without_field : List ℕ
child_without_field = head ++ (0x20 ∷ 0 ∷ 0 ∷ 0x0d ∷ 0 ∷ 0x61 ∷ 0x61 ∷ 0 ∷ 0 ∷ 0 ∷ 0x0c ∷ [])

-- The root's range is of the byte 128, of the byte 0, and from "b" down to "a"; its one child is
-- absent.
abbrev pub byte_over_127 : List ℕ
byte_over_127 = head ++ (0x20 ∷ 0 ∷ 0 ∷ 0x0c ∷ 0x80 ∷ 0x80 ∷ 0 ∷ 0 ∷ 0 ∷ 0 ∷ [])

abbrev pub byte_0 : List ℕ
byte_0 = head ++ (0x20 ∷ 0 ∷ 0 ∷ 0x0c ∷ 0 ∷ 0 ∷ 0 ∷ 0 ∷ 0 ∷ 0 ∷ [])

abbrev pub range_turned : List ℕ
range_turned = head ++ (0x20 ∷ 0 ∷ 0 ∷ 0x0c ∷ 0x62 ∷ 0x61 ∷ 0 ∷ 0 ∷ 0 ∷ 0 ∷ [])

-- The offset of the root's child, the root's prefix and the count of its values are cut off.
abbrev pub offset_cut_off : List ℕ
offset_cut_off = head ++ (0x20 ∷ 0 ∷ 0 ∷ 0x0c ∷ 0x61 ∷ 0x61 ∷ 0 ∷ 0 ∷ 0 ∷ [])

abbrev pub prefix_cut_off : List ℕ
prefix_cut_off = head ++ (0x80 ∷ 0 ∷ 0 ∷ 0x0c ∷ 0x6b ∷ [])

abbrev pub count_cut_off : List ℕ
count_cut_off = head ++ (0x40 ∷ 0 ∷ 0 ∷ 0x0c ∷ 0 ∷ 0 ∷ 0 ∷ [])

-- The root is at 11, in its own offset.
abbrev pub root_at_11 : List ℕ
root_at_11 = head ++ (0x80 ∷ 0 ∷ 0 ∷ 0x0b ∷ 0 ∷ [])

-- The root's offset has the bit without meaning, and no field.
abbrev pub bit_28 : List ℕ
bit_28 = head ++ (0x10 ∷ 0 ∷ 0 ∷ 0x0c ∷ [])

-- Two offsets lead to the node at 12, and the second has no flag of a field.
abbrev pub reached_without_field : List ℕ
reached_without_field =
    head ++ (0x20 ∷ 0 ∷ 0 ∷ 0x16 ∷ 0 ∷ 0 ∷ 0 ∷ 1 ∷ 0 ∷ 0 ∷ 0 ∷ 0 ∷ 0x78 ∷ 0 ∷ [])
    ++ (0x61 ∷ 0x62 ∷ 0x40 ∷ 0 ∷ 0 ∷ 0x0c ∷ 0 ∷ 0 ∷ 0 ∷ 0x0c ∷ [])

-- The root at 18 has children at 12 and at 11, and the one at 12 a child at 10.
abbrev pub grandchild_at_10 : List ℕ
grandchild_at_10 =
    head ++ (0x20 ∷ 0 ∷ 0 ∷ 0x12 ∷ 0x61 ∷ 0x61 ∷ 0x20 ∷ 0 ∷ 0 ∷ 0x0a ∷ [])
    ++ (0x61 ∷ 0x62 ∷ 0x20 ∷ 0 ∷ 0 ∷ 0x0c ∷ 0x20 ∷ 0 ∷ 0 ∷ 0x0b ∷ [])

-- A file of another version, and the first three bytes of one.
abbrev pub version_2_0 : List ℕ
version_2_0 = 0xb0 ∷ 0x07 ∷ 0xf4 ∷ 0x57 ∷ 0x00 ∷ 0x02 ∷ 0x00 ∷ 0x00 ∷ 0 ∷ 0 ∷ 0 ∷ 0x0c ∷ []

abbrev pub three_bytes : List ℕ
three_bytes = 0xb0 ∷ 0x07 ∷ 0xf4 ∷ []
