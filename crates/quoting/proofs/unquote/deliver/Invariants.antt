use Rattle.std.proofs.Common.{◌≡◌, ◌≤◌, length, take, drop, Some}
use Rattle.basics.specs.Pages.{over}
use Rattle.quoting.specs.Forms.{delivered, unquoted}
use Rattle.quoting.specs.Unquoting.{text_of}
use Rattle.quoting.proofs.unquote.deliver.Given as goal

-- the rest of the form delivers the rest of the text, and its front stands in the part
abbrev pub invariant-loop-b : goal.invariant-loop-b
invariant-loop-b l =
    (delivered l.state (drop l.b-index l.form) ≡ Some (drop l.at (text_of (unquoted l.form))))
    × (l.part ≡ over (take l.at (text_of (unquoted l.form))) l.initial.part)
    × (l.at ≤ length (text_of (unquoted l.form)))
