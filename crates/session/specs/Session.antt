-- One run of the program.
use Rattle.std.specs.Prelude.{◌≡◌, ℕ, ◌<◌, ◌≤◌, true, List, length, Some, None, Ok, Err, Option, Result}
use Rattle.refusal.specs.declared.Shortage.TheVariants.{Bytes}
use Rattle.refusal.specs.declared.Refusal.{Refusal}
use Rattle.refusal.specs.declared.Refusal.TheVariants.{FileTooLarge}
use Rattle.graph.specs.Model.{no_objects}
use Rattle.workspace.specs.Model.{Model}
use Rattle.workspace.specs.Loading.{Loads}
use Rattle.lines.specs.Printed.{unknown_line, refused_line, done_line, hit_line, none_line}
use Rattle.lines.specs.Reading.{command_of}
use Rattle.lines.specs.declared.command.Command.{Command}
use Rattle.lines.specs.declared.command.Command.TheVariants.{Open, Split, SplitAll, Extend, Attach}
use Rattle.markbase.specs.declared.hits.Hit.{Hit}
use Rattle.workspace.specs.Opening.{Opens}
use Rattle.workspace.specs.Attaching.{attach_of}

-- the program's workspace before a file is loaded: 500 vertices, 2,000 links and 16,000 bytes, with lists that serve
abbrev pub program_model : Model
program_model = record { graph = no_objects (record { vertices = 500; links = 2000; bytes = 16000 }); lists = true; loaded = 0; lookup = None }

-- a file above 50,020 bytes is too large, whatever it holds; any other is loaded
abbrev pub LoadsFile : Model → List ℕ → Result ℕ Refusal → Model → Type 0
LoadsFile m file r m' = (50020 < length file → (r ≡ Err (FileTooLarge Bytes)) × (m' ≡ m)) × (length file ≤ 50020 → Loads m file r m')

-- what is printed for the answer of a call that gives a number
abbrev pub number_line : List ℕ → Result ℕ Refusal → List ℕ
number_line line (Ok n) = done_line line n
number_line line (Err e) = refused_line line e

-- what is printed for the answer of `attach`
abbrev pub attach_line : List ℕ → Result (Option Hit) Refusal → List ℕ
attach_line line (Ok (Some h)) = hit_line line h.mark h.base
attach_line line (Ok None) = none_line line
attach_line line (Err e) = refused_line line e

-- what is printed for a command, and what its call does; the calls of S, A and E are not there yet
abbrev pub AnswersTo : Model → List ℕ → Option Command → List ℕ → Model → Type 0
AnswersTo m line (Some (Open v)) out m' = (r : Result ℕ Refusal) × Opens m v r m' × (out ≡ number_line line r)
AnswersTo m line (Some (Attach mark base)) out m' = (out ≡ attach_line line (attach_of m mark base)) × (m' ≡ m)
AnswersTo m line (Some (Split place reach)) out m' = (out ≡ unknown_line) × (m' ≡ m)
AnswersTo m line (Some (SplitAll reach)) out m' = (out ≡ unknown_line) × (m' ≡ m)
AnswersTo m line (Some Extend) out m' = (out ≡ unknown_line) × (m' ≡ m)
AnswersTo m line None out m' = (out ≡ unknown_line) × (m' ≡ m)

-- what is printed for a line: for the command that it spells, and else `?`
abbrev pub Answers : Model → List ℕ → List ℕ → Model → Type 0
Answers m line out m' = AnswersTo m line (command_of line) out m'
