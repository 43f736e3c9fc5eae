-- What the books of two states share. Assumes nothing.
use Rattle.std.proofs.Common.{◌≡◌, ℕ, ◌≤◌, Bool, true, false, ltb, List, length, Some, None, Ok, Err, Option, Result, sym, refl, ap, arith, ltb-false}
use Rattle.basics.specs.Checks.{refuse_if, or_else, unless, answer}
use Rattle.basics.specs.declared.refusal.Refusal.{Refusal}
use Rattle.basics.specs.declared.refusal.Reason.TheVariants.{TooLong}
use Rattle.aliases.specs.Aliases.{Aliases}
use Rattle.reading.specs.Readings as readings
use Rattle.reading.specs.Readings.{Ending, ended, refused}
use Rattle.reading.specs.Listed.{template_reading}
use Rattle.listing.specs.Laying.{ending}
use Rattle.listing.specs.Listing.{unless_refused}
use Rattle.listing.specs.Checking.{template_check, template_mask, masked_holes}
use Rattle.orders.specs.Book.{Book}

abbrev pub book : Option (List ℕ) → (ℕ → Option (List ℕ)) → Aliases → Book
book l t a = record { aliases = a; loaded = l; texts = t }

-- a book changes as its aliases do
pub by_aliases : (d : Option Refusal) (x y : Aliases) (l : Option (List ℕ)) (t : ℕ → Option (List ℕ)) → book l t (unless d x y) ≡ unless d (book l t x) (book l t y)
by_aliases None x y l t = refl
by_aliases (Some f) x y l t = refl

-- where a check lets pass, the next is heard
pub heard : (c d : Option Refusal) (z : Unit {0}) → Ok z ≡ answer c tt → or_else c d ≡ d
heard None d z e = refl
heard (Some f) d z e = let n : ◌≡◌ {A = ℕ} 0 1 = cc in absurd (omega arith)

-- a template that is taken is no longer than it may be, and its holes are told

let_pass : (x : Option Refusal) (r : Result ℕ Refusal) (h : ℕ) → Ok h ≡ unless_refused x r → (x ≡ None) × (Ok h ≡ r)
let_pass None r h p = (refl, p)
let_pass (Some f) r h p = let z : ◌≡◌ {A = ℕ} 0 1 = cc in absurd (omega arith)

by_ending : (e : Ending Refusal) (m h : ℕ) → Ok h ≡ ending e m → h ≡ m
by_ending ended m h p = cc
by_ending (refused f) m h p = let z : ◌≡◌ {A = ℕ} 0 1 = cc in absurd (omega arith)

not_long : (b : Bool) (x : Option Refusal) → or_else (refuse_if b TooLong 0) x ≡ None → b ≡ false
not_long false x p = refl
not_long true x p = let z : ◌≡◌ {A = ℕ} 0 1 = cc in absurd (omega arith)

pub taken : (al : readings.Aliases) (t : List ℕ) (h : ℕ) → Ok h ≡ masked_holes al t → (length t ≤ 1024) × (h ≡ template_mask t)
taken al t h p =
    let q = let_pass (template_check t) (ending (template_reading al t).ending (template_mask t)) h p in
    (omega (arith, ltb-false 1024 (length t) (not_long (ltb 1024 (length t)) _ q.0)), by_ending (template_reading al t).ending (template_mask t) h q.1)

-- a call's answer, where it has something else to say

pub accepts : {Y : Type 0} (c : Option Refusal) (y : Y) (z : Unit {0}) → Ok z ≡ answer c tt → Ok y ≡ answer c y
accepts None y z e = refl
accepts (Some f) y z e = let n : ◌≡◌ {A = ℕ} 0 1 = cc in absurd (omega arith)

pub refuses : {Y : Type 0} (c : Option Refusal) (y : Y) (f : Refusal) → Err f ≡ answer {X = Unit {0}} c tt → Err f ≡ answer c y
refuses None y f e = let n : ◌≡◌ {A = ℕ} 0 1 = cc in absurd (omega arith)
refuses (Some g) y f e = let k : g ≡ f = cc in ap Err (sym k)
