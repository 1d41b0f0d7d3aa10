-- The lines that the program writes on err. Each is the program's name, a text and a line end.
use Rattle.std.specs.Prelude.{ℕ, List, [], ◌∷◌, ◌++◌, codes}
use Rattle.std.specs.Fmt.{decimal}
use Rattle.km_names.specs.Texts.{cycle_text, not_found_text}
use Rattle.km_course.specs.declared.refusal.Refusal.{Refusal}
use Rattle.km_course.specs.declared.refusal.Refusal.TheVariants.{BadModule, Compressed, Cycle}
use Rattle.km_course.specs.declared.refusal.Refusal.TheVariants.{NotFound, Obstacle, BadIndex}
use Rattle.km_course.specs.declared.refusal.Refusal.TheVariants.{BadLine, InstallChosen}
use Rattle.km_course.specs.declared.refusal.Refusal.TheVariants.{KernelWithoutAddress}
use Rattle.km_course.specs.declared.refusal.Refusal.TheVariants.{ListedNotFound, ListedRefused}
use Rattle.km_course.specs.declared.refusal.Refusal.TheVariants.{LoadRefused, ParamsRefused, InUse}
use Rattle.km_course.specs.declared.refusal.Refusal.TheVariants.{RemoveChosen, TooManyModules}
use Rattle.km_course.specs.declared.refusal.Refusal.TheVariants.{TooManyDependencies}
use Rattle.km_course.specs.declared.refusal.Refusal.TheVariants.{TooManyDoubles, OutputTooLarge}
use Rattle.km_course.specs.declared.refusal.Refusal.TheVariants.{BadPath, InnerOutputFull}
use Rattle.km_course.specs.declared.end.End.{End}
use Rattle.km_course.specs.declared.end.End.TheVariants.{Refused, NotUnderstood, NoFile, TooLarge}
use Rattle.km_course.specs.declared.end.End.TheVariants.{Inner}

-- The line of a text.
abbrev pub line : List ℕ → List ℕ
line text = (codes "kmod: " ++ text) ++ 10 ∷ []

-- The line for a file or folder that is needed and missing.
abbrev pub no_file : List ℕ → List ℕ
no_file path = line (codes "no file " ++ path)

-- The line for a file with more bytes, or a folder with more names, than the limit.
abbrev pub too_large : List ℕ → List ℕ
too_large path = line (path ++ codes ": too large")

-- The line for a failed call on the file or folder.
abbrev pub file_fault : List ℕ → List ℕ
file_fault path = line (codes "file fault " ++ path)

-- The line for a failed write to the output.
abbrev pub output_fault : List ℕ
output_fault = line (codes "output fault")

-- The line for out of memory.
abbrev pub out_of_memory : List ℕ
out_of_memory = line (codes "out of memory")

-- The line for words of the command line that weren't understood.
abbrev pub usage : List ℕ
usage = line (codes "usage: kmod depmod|modprobe|modinfo|trial|static-nodes|builtin-alias WORDS")

-- The text of a refusal.
abbrev pub refusal_text : Refusal → List ℕ
refusal_text (BadModule path text) = path ++ (codes ": " ++ text)
refusal_text (Compressed path) = path ++ codes ": compressed"
refusal_text (Cycle names) = cycle_text names
refusal_text (NotFound name) = not_found_text name
refusal_text (Obstacle text) = text
refusal_text (BadIndex file text) = file ++ (codes ": " ++ text)
refusal_text (BadLine file number) = file ++ (codes ": bad line " ++ decimal number)
refusal_text (InstallChosen name) = codes "install chosen " ++ name
refusal_text (KernelWithoutAddress name) = codes "kernel without address " ++ name
refusal_text (ListedNotFound name) = codes "listed module " ++ (name ++ codes ": not found")
refusal_text (ListedRefused name text) = codes "listed module " ++ (name ++ (codes ": " ++ text))
refusal_text (LoadRefused name text) = name ++ (codes ": " ++ text)
refusal_text (ParamsRefused name text) = name ++ (codes ": " ++ text)
refusal_text (InUse name user) = name ++ (codes " is in use by " ++ user)
refusal_text (RemoveChosen name) = codes "remove chosen " ++ name
refusal_text TooManyModules = codes "too many modules"
refusal_text TooManyDependencies = codes "too many dependencies"
refusal_text TooManyDoubles = codes "too many doubles"
refusal_text (OutputTooLarge file) = file ++ codes ": output too large"
refusal_text (BadPath path) = codes "bad path " ++ path
refusal_text InnerOutputFull = codes "inner output full"

-- The line of an end.
abbrev pub end_line : End → List ℕ
end_line (Refused refusal) = line (refusal_text refusal)
end_line NotUnderstood = usage
end_line (NoFile path) = no_file path
end_line (TooLarge path) = too_large path
end_line (Inner whole) = whole

-- The status of an end.
abbrev pub end_status : End → ℕ
end_status (Refused refusal) = 1
end_status NotUnderstood = 2
end_status (NoFile path) = 1
end_status (TooLarge path) = 1
end_status (Inner whole) = 1
