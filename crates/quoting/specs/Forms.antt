-- How a form is read, and which forms are lawful. Assumes nothing.
use Rattle.std.specs.Prelude.{◌≡◌, ℕ, ◌+◌, ◌*◌, ◌≤◌, cond, List, [], ◌∷◌, length, Some, None, Ok, Err, Option, Result, ◌==◌, nat_le}
use Rattle.basics.specs.Bytes.{newline, single_quote, backslash, ZeroFree}
use Rattle.quoting.specs.declared.form.State.{State}
use Rattle.quoting.specs.declared.form.State.TheVariants.{Bare, Escaped, SingleQuoted}
use Rattle.quoting.specs.declared.form.Step.{Step}
use Rattle.quoting.specs.declared.form.Step.TheVariants.{Passes, Delivers}

-- What a byte does, where it may stand. Bare, ' enters single quotes and a backslash takes the next byte, which is delivered unless it is a newline;
-- any other bare byte is unlawful. In single quotes every byte is delivered but ', which ends them.
abbrev pub step : State → ℕ → Option Step
step Bare b = cond (b == single_quote) (Some (Passes SingleQuoted)) (cond (b == backslash) (Some (Passes Escaped)) None)
step Escaped b = cond (b == newline) None (Some (Delivers Bare))
step SingleQuoted b = cond (b == single_quote) (Some (Passes Bare)) (Some (Delivers SingleQuoted))

-- a form may end where it is bare, and delivers nothing more
abbrev pub ended : State → Option (List ℕ)
ended Bare = Some []
ended Escaped = None
ended SingleQuoted = None

abbrev pub with_byte : ℕ → Option (List ℕ) → Option (List ℕ)
with_byte b None = None
with_byte b (Some text) = Some (b ∷ text)

-- what a byte that does this delivers, where the rest of the form, read from each state, delivers that
abbrev pub stepped : Option Step → ℕ → (State → Option (List ℕ)) → Option (List ℕ)
stepped (Some (Passes s)) b rest = rest s
stepped (Some (Delivers s)) b rest = with_byte b (rest s)
stepped None b rest = None

-- what a form delivers, read from a state to its end, if nothing in it is unlawful
abbrev pub delivered : State → List ℕ → Option (List ℕ)
delivered s [] = ended s
delivered s (b ∷ form) = stepped (step s b) b (λ t. delivered t form)

-- how many bytes come before the first that is unlawful
abbrev pub past : Option Step → (State → ℕ) → ℕ
past (Some (Passes s)) rest = 1 + rest s
past (Some (Delivers s)) rest = 1 + rest s
past None rest = 0

abbrev pub lawful_bytes : State → List ℕ → ℕ
lawful_bytes s [] = 0
lawful_bytes s (b ∷ form) = past (step s b) (λ t. lawful_bytes t form)

-- the most bytes that a form of n bytes of text may have
abbrev pub longest : ℕ → ℕ
longest n = 4 * n + 2

-- A lawful form has at least one byte, ends bare, delivers exactly the text, and is not over-long.
pub record LawfulForm (text form : List ℕ) : Type 0 where
  pub some : 1 ≤ length form
  pub reads : delivered Bare form ≡ Some text
  pub short : length form ≤ longest (length text)

-- A quoter is lawful if its forms of all texts free of byte 0 are.
abbrev pub Lawful : (List ℕ → List ℕ) → Type 0
Lawful form = (text : List ℕ) → ZeroFree text → LawfulForm text (form text)

-- Reading a form back gives the text, or the place of the first byte that makes the form unlawful: one that may not stand there,
-- the end where the form breaks off, or the first past the most that its text may take.
abbrev pub judged : List ℕ → Option (List ℕ) → Result (List ℕ) ℕ
judged form None = Err (lawful_bytes Bare form)
judged form (Some text) = cond (nat_le (length form) (longest (length text))) (Ok text) (Err (longest (length text)))

abbrev pub unquoted : List ℕ → Result (List ℕ) ℕ
unquoted [] = Err 0
unquoted (b ∷ form) = judged (b ∷ form) (delivered Bare (b ∷ form))

-- Reading back takes exactly the lawful forms, each as its text.
abbrev pub UnquotingTakesLawfulForms : Type 0
UnquotingTakesLawfulForms = (text form : List ℕ) → (LawfulForm text form → unquoted form ≡ Ok text) × (unquoted form ≡ Ok text → LawfulForm text form)
