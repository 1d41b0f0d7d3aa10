-- Sections put into a file one after the other.
use Rattle.std.proofs.Common.{◌≡◌, ℕ, ◌+◌, ◌-◌, ◌≤◌, List, [], ◌∷◌, ◌++◌, length, take, drop, fold}
use Rattle.std.proofs.Common.{refl, sym, ap, ◌∙◌, arith}
use Rattle.std.proofs.lemmas.List.{append-nil, append_assoc, length-append, length-replicate}
use Rattle.std.proofs.lemmas.List.{length-drop, take_rest, take_at, drop-drop, drop_all}
use borrow.Rule.Slice.PartMut.{put_mid}
use Rattle.elf_write.specs.declared.file.ObjectFile.{ObjectFile}
use Rattle.elf_write.specs.declared.part.Part.{Part}
use Rattle.elf_write.specs.Number.{zeros, half, word, xword, with_nul}
use Rattle.elf_write.specs.File.{Laid, start, with_part, gap, header, section_header, file_of}
use Rattle.elf_write.specs.Writing.{IsFileOf}

pub length-zeros : (n : ℕ) → length (zeros n) ≡ n
unfolding zeros
length-zeros n = length-replicate n 0

length-header : (table count named : ℕ) → length (header table count named) ≡ 64
unfolding header zeros half word xword
length-header table count named = refl

-- a list with the bytes b in it from place a on, by what is written to the rest from there
pub put-at : (a k : ℕ) (file rest b : List ℕ)
    → rest ≡ b ++ drop k (take (length file - a) (drop a file))
    → put_mid a (length file - a) file rest ≡ take a file ++ b ++ drop (a + k) file
put-at a k file rest b e =
    let none : drop (length file - a) (drop a file) ≡ []
    = drop_all (length file - a) (drop a file) (omega (arith, length-drop a file)) in
    let after : rest ≡ b ++ drop (a + k) file =
    e ∙ ap (λ r. b ++ drop k r) (take_rest file a) ∙ ap (λ r. b ++ r) (drop-drop k a file) in
    ap (λ r. take a file ++ (rest ++ r)) none
    ∙ ap (λ r. take a file ++ r) (append-nil rest ∙ after)
    ∙ sym (append_assoc (take a file) b (drop (a + k) file))

-- the place of the section header table put into a file
patched : (table count named : ℕ) (rest : List ℕ)
    → take 40 (header 0 count named ++ rest) ++ xword table
    ++ drop 48 (header 0 count named ++ rest)
    ≡ header table count named ++ rest
unfolding header zeros half word xword
patched table count named rest = refl

-- what was lent whole and comes back
pub take_whole : (n : ℕ) (xs ys : List ℕ) → n ≡ length xs → take n (xs ++ ys) ≡ xs
take_whole n xs ys e = take_at xs ys n (sym e)

-- where a file with sections in it ends
end-of : (l : Laid) (count named : ℕ) (f : List ℕ) → f ≡ header 0 count named ++ l.contents
    → length f ≡ 64 + length l.contents
end-of l count named f is =
    ap length is ∙ length-append (header 0 count named) l.contents
    ∙ ap (λ n. n + length l.contents) (length-header 0 count named)

-- a file with a header is long enough for the place in it
pub long-enough : (f : ObjectFile) (l : Laid) (count named : ℕ) → IsFileOf f l count named
    → 48 ≤ length f.bytes.items
long-enough f l count named is = omega (arith, end-of l count named f.bytes.items is.bytes)

-- and with zeros up to a multiple of 8
filled : (l : Laid) (count named : ℕ) (f g : List ℕ) → f ≡ header 0 count named ++ l.contents
    → g ≡ f ++ zeros (gap (length f))
    → g ≡ header 0 count named ++ (l.contents ++ zeros (gap (64 + length l.contents)))
filled l count named f g is fill =
    fill
    ∙ ap (λ n. f ++ zeros (gap n)) (end-of l count named f is)
    ∙ ap (λ r. r ++ zeros (gap (64 + length l.contents))) is
    ∙ append_assoc (header 0 count named) l.contents (zeros (gap (64 + length l.contents)))

-- its length then
filled-length : (l : Laid) (count named : ℕ) (f g : List ℕ) → f ≡ header 0 count named ++ l.contents
    → g ≡ f ++ zeros (gap (length f))
    → length g ≡ 64 + length l.contents + gap (64 + length l.contents)
filled-length l count named f g is fill =
    ap length fill ∙ length-append f (zeros (gap (length f)))
    ∙ ap (λ n. length f + n) (length-zeros (gap (length f)))
    ∙ ap (λ n. n + gap n) (end-of l count named f is)

module _ (l : Laid) (p : Part) (count named : ℕ) (f g h : List ℕ)
    (is : f ≡ header 0 count named ++ l.contents) (fill : g ≡ f ++ zeros (gap (length f))) where
  -- the content of a section put into a file
  pub put-content : h ≡ g ++ p.content → h ≡ header 0 count named ++ (with_part l p).contents
  unfolding with_part
  put-content put =
      put ∙ ap (λ r. r ++ p.content) (filled l count named f g is fill)
      ∙ append_assoc (header 0 count named) (l.contents ++ zeros (gap (64 + length l.contents)))
      p.content

  -- its header put among the headers
  pub put-header : (t u : List ℕ) (place names size : ℕ) → t ≡ l.headers → names ≡ length l.names
      → place ≡ length g → size ≡ length p.content
      → u ≡ t ++ section_header names p.attributes place size → u ≡ (with_part l p).headers
  unfolding with_part
  put-header t u place names size headers name at long row =
      row
      ∙ ap (λ r. r ++ section_header names p.attributes place size) headers
      ∙ ap (λ n. l.headers ++ section_header n p.attributes place size) name
      ∙ ap (λ n. l.headers ++ section_header (length l.names) p.attributes n size)
      (at ∙ filled-length l count named f g is fill)
      ∙ ap (λ n. l.headers
      ++ section_header (length l.names) p.attributes
      (64 + length l.contents + gap (64 + length l.contents)) n) long

-- and its name among the names
pub put-name : (l : Laid) (p : Part) (names size : ℕ) → names ≡ length l.names
    → size ≡ length p.name → names + (size + 1) ≡ length (with_part l p).names
unfolding with_part
put-name l p names size is long =
    omega (arith, is, long, length-append l.names (with_nul p.name), length-append p.name (0 ∷ []))

-- the table is put after the contents, and its place into the header
pub finished : (l : Laid) (count named : ℕ) (f g d out headers : List ℕ) (place : ℕ)
    → f ≡ header 0 count named ++ l.contents → headers ≡ l.headers
    → g ≡ f ++ zeros (gap (length f)) → d ≡ g ++ headers → place ≡ length g
    → out ≡ take 40 d ++ xword place ++ drop 48 d
    → out
    ≡ header (64 + length l.contents + gap (64 + length l.contents)) count named ++ l.contents
    ++ zeros (gap (64 + length l.contents)) ++ l.headers
finished l count named f g d out headers place is rows fill put at e =
    let end : ℕ = 64 + length l.contents in
    let rest : List ℕ = l.contents ++ zeros (gap end) ++ l.headers in
    let file : d ≡ header 0 count named ++ rest =
    put ∙ ap (λ r. r ++ headers) (filled l count named f g is fill)
    ∙ ap (λ r. header 0 count named ++ (l.contents ++ zeros (gap end)) ++ r) rows
    ∙ append_assoc (header 0 count named) (l.contents ++ zeros (gap end)) l.headers in
    e
    ∙ ap (λ r. take 40 r ++ xword place ++ drop 48 r) file
    ∙ patched place count named rest
    ∙ ap (λ n. header n count named ++ rest) (at ∙ filled-length l count named f g is fill)
    ∙ sym (append_assoc (header (end + gap end) count named) (l.contents ++ zeros (gap end))
    l.headers)
    ∙ ap (λ r. r ++ l.headers)
    (sym (append_assoc (header (end + gap end) count named) l.contents (zeros (gap end))))

-- what is finished is the file of the sections
pub file-is : (parts : List Part) (out : List ℕ) (count named : ℕ) → count ≡ length parts + 1
    → (let l
    = fold with_part start parts in let end
    = 64 + length l.contents in out
    ≡ header (end + gap end) count named ++ l.contents ++ zeros (gap end) ++ l.headers)
    → out ≡ file_of named parts
unfolding file_of
file-is parts out count named is e =
    let l : Laid = fold with_part start parts in
    let end : ℕ = 64 + length l.contents in
    let same : count ≡ 1 + length parts = omega arith in
    e ∙ ap (λ n. header (end + gap end) n named ++ l.contents ++ zeros (gap end) ++ l.headers) same
