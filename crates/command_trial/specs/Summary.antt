-- What a trial says: five numbers, read off what its two commands left. The form is this project's
-- own.
use Rattle.std.specs.Prelude.{ℕ, ◌==◌, List, [], ◌∷◌, ◌++◌, length, codes}
use Rattle.std.specs.Prelude.{unwrap_or}
use Rattle.std.specs.Fmt.{decimal}
use Rattle.std.specs.List.{after_first, flat_map}
use Rattle.std.specs.FinMap as map
use Rattle.std.specs.Option.{option_to_list}
use Rattle.hex.specs.Hex.{encode_lower}
use Rattle.sha2.specs.Sha256.{sha256}
use Rattle.km_names.specs.Lines.{lines_of}
use Rattle.km_names.specs.Path.{path_below}
use Rattle.km_names.specs.Space.{first_word, words}
use Rattle.outside_calls.specs.Contents.{Contents, rest_after}
use Rattle.km_course.specs.Inner.{Left}

-- the bytes of the file at the path, or none if there is no file
abbrev pub bytes_at : List ℕ → Contents → List ℕ
bytes_at path files = unwrap_or (map.get files path) []

-- What follows the start in each line of a text that begins with it, in the order of the lines.
abbrev pub rests_of_lines : List ℕ → List ℕ → List (List ℕ)
rests_of_lines start text =
    flat_map (λ line. option_to_list (rest_after start line)) (lines_of text)

-- The paths after the colon of a line of modules.dep, which is a path, a colon, and the paths of
-- those that it needs. modules.dep(5).
abbrev pub paths_after_colon : List ℕ → List (List ℕ)
paths_after_colon line = words (after_first (λ b. b == 58) line)

-- The dependencies that a modules.dep lists: the paths after the colons of all its lines.
-- modules.dep(5).
abbrev pub dependencies_in : List ℕ → List (List ℕ)
dependencies_in text = flat_map paths_after_colon (lines_of text)

-- where depmod puts the modules.dep of the made tree
abbrev pub dependency_file : List ℕ
dependency_file = codes "/t/lib/modules/trial/modules.dep"

-- How many dependencies the modules.dep of the made tree lists.
unfoldable pub dependencies_left : Contents → ℕ
dependencies_left files = length (dependencies_in (bytes_at dependency_file files))

-- The path of the image of a module that a line reports as loaded: its name is the first word that
-- follows `loaded `.
abbrev pub image_path : List ℕ → List ℕ
image_path rest = path_below (codes "/t/img") (first_word rest ++ codes ".img")

-- The images of the modules that lines say were loaded, one after the other.
abbrev pub images_of : Contents → List (List ℕ) → List ℕ
images_of files rests = flat_map (λ rest. bytes_at (image_path rest) files) rests

-- The modules that an output of modprobe plans, and those that it says were loaded: what follows
-- the word in each line.
abbrev pub planned : List ℕ → List (List ℕ)
planned out = rests_of_lines (codes "insmod ") out

-- those that it says were loaded
abbrev pub loaded : List ℕ → List (List ℕ)
loaded out = rests_of_lines (codes "loaded ") out

-- a line of the summary: what it states, and a value
abbrev pub stated : List ℕ → List ℕ → List ℕ
stated what shown = what ++ (codes " " ++ (shown ++ 10 ∷ []))

-- The five lines of a trial of this many modules with this many dependencies:
-- - how many modules and how many dependencies there are;
-- - how many modules modprobe planned, and how many it loaded;
-- - the SHA-256 of all images in the order of the loads, in hexadecimal digits. FIPS 180-4.
unfoldable pub summary : ℕ → ℕ → Left → List ℕ
summary modules dependencies left =
    stated (codes "modules") (decimal modules)
    ++ stated (codes "dependencies") (decimal dependencies)
    ++ stated (codes "planned") (decimal (length (planned left.out)))
    ++ stated (codes "loaded") (decimal (length (loaded left.out)))
    ++ stated (codes "images") (encode_lower (sha256 (images_of left.files (loaded left.out))))
