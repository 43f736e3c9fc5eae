-- Roles of words, the use of a word by its stage, and the reserved words. Assumes nothing.
use Rattle.std.specs.Prelude.{ℕ, Bool, true, false, cond, ◌||◌, List, [], ◌∷◌, Some, None, codes, Option, ◌==◌}
use Rattle.std.specs.Str.{bytes_eq}
use Rattle.commands.specs.declared.role.Role.{Role}
use Rattle.commands.specs.declared.role.Role.TheVariants.{Name, Arg, Assign, Target, Delim, Number}
use Rattle.commands.specs.declared.role.Use.{Use}
use Rattle.commands.specs.declared.stage.Stage.{Stage}
use Rattle.commands.specs.declared.stage.Stage.TheVariants.{Start, Must, Head, Args, Done}

abbrev pub role_number : Role → ℕ
role_number Name = 1
role_number Arg = 2
role_number Assign = 3
role_number Target = 4
role_number Delim = 5
role_number Number = 6

-- the role of a number, if it is a role's
abbrev pub role_of : ℕ → Option Role
role_of n =
    cond (n == 1) (Some Name) (cond (n == 2) (Some Arg) (cond (n == 3) (Some Assign) (cond (n == 4) (Some Target) (cond (n == 5) (Some Delim) (cond (n == 6) (Some Number) None)))))

abbrev pub is_name : Role → Bool
is_name Name = true
is_name Arg = false
is_name Assign = false
is_name Target = false
is_name Delim = false
is_name Number = false

abbrev pub one_of : List ℕ → List (List ℕ) → Bool
one_of w [] = false
one_of w (v ∷ vs) = bytes_eq w v || one_of w vs

abbrev pub reserved_words : List (List ℕ)
reserved_words =
    codes "!" ∷ codes "{" ∷ codes "}" ∷ codes "if" ∷ codes "then" ∷ codes "elif" ∷ codes "else" ∷ codes "fi" ∷ codes "while" ∷ codes "until" ∷ codes "do" ∷ codes "done" ∷ codes "for" ∷ codes "case" ∷ codes "esac" ∷ []

abbrev pub is_reserved : List ℕ → Bool
is_reserved w = one_of w reserved_words

abbrev pub used : Role → Stage → Option Use
used r g = Some (record { role = r; stage = g })

-- before the name, an assignment, or the name
abbrev pub first_use : Bool → Option Use
first_use assign = cond assign (used Assign Head) (used Name Args)

-- the role of a word and the stage after it, or none where it is out of place; by whether it is a plain reserved word, and whether it began with a bare name and `=`
abbrev pub use_of : Stage → Bool → Bool → Option Use
use_of Start reserved assign = cond reserved None (first_use assign)
use_of Must reserved assign = cond reserved None (first_use assign)
use_of Head reserved assign = first_use assign
use_of Args reserved assign = used Arg Args
use_of Done reserved assign = None

-- the word would be a command's name
abbrev pub is_name_use : Option Use → Bool
is_name_use None = false
is_name_use (Some u) = is_name u.role
