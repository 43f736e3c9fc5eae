-- The refusals: the number, the layer and the words of each reason. Assumes nothing.
use Rattle.std.specs.Prelude.{ℕ, List, ◌∷◌, ◌++◌, codes, decimal}
use Rattle.basics.specs.declared.refusal.Reason.{Reason}
use Rattle.basics.specs.declared.refusal.Reason.TheVariants.{TooLong, ZeroByte, BadAlias, BadHole, OpenQuote, ExpansionNotTaken, TooDeep, HoleNotTaken, OutOfPlace, Unfinished, HereDocument, NoRoom, TooManyReplacements, TemplateLoaded, NoTemplate, TooManyAliases, NoSuchAlias, Unbound, NoSuchHole, ScriptTooLong}
use Rattle.basics.specs.declared.refusal.Refusal.{Refusal}
use Rattle.basics.specs.declared.refusal.Layer.{Layer}
use Rattle.basics.specs.declared.refusal.Layer.TheVariants.{Source, Token, Command, Order}

abbrev pub number_of : Reason → ℕ
number_of TooLong = 1
number_of ZeroByte = 2
number_of BadAlias = 3
number_of BadHole = 4
number_of OpenQuote = 6
number_of ExpansionNotTaken = 7
number_of TooDeep = 9
number_of HoleNotTaken = 10
number_of OutOfPlace = 11
number_of Unfinished = 13
number_of HereDocument = 14
number_of NoRoom = 15
number_of TooManyReplacements = 16
number_of TemplateLoaded = 21
number_of NoTemplate = 22
number_of TooManyAliases = 23
number_of NoSuchAlias = 24
number_of Unbound = 25
number_of NoSuchHole = 26
number_of ScriptTooLong = 27

abbrev pub layer_of : Reason → Layer
layer_of TooLong = Order
layer_of ZeroByte = Source
layer_of BadAlias = Order
layer_of BadHole = Source
layer_of OpenQuote = Token
layer_of ExpansionNotTaken = Token
layer_of TooDeep = Token
layer_of HoleNotTaken = Token
layer_of OutOfPlace = Command
layer_of Unfinished = Command
layer_of HereDocument = Command
layer_of NoRoom = Order
layer_of TooManyReplacements = Source
layer_of TemplateLoaded = Order
layer_of NoTemplate = Order
layer_of TooManyAliases = Order
layer_of NoSuchAlias = Order
layer_of Unbound = Order
layer_of NoSuchHole = Order
layer_of ScriptTooLong = Order

abbrev pub layer_number : Layer → ℕ
layer_number Source = 1
layer_number Token = 2
layer_number Command = 3
layer_number Order = 4

abbrev pub words_of : Reason → List ℕ
words_of TooLong = codes "too long"
words_of ZeroByte = codes "byte 0"
words_of BadAlias = codes "bad alias"
words_of BadHole = codes "bad hole"
words_of OpenQuote = codes "open quote at the end"
words_of ExpansionNotTaken = codes "expansion not taken"
words_of TooDeep = codes "nested too deep"
words_of HoleNotTaken = codes "hole not taken"
words_of OutOfPlace = codes "out of place"
words_of Unfinished = codes "unfinished at the end"
words_of HereDocument = codes "here-document"
words_of NoRoom = codes "page or sheet too small"
words_of TooManyReplacements = codes "too many replacements"
words_of TemplateLoaded = codes "template loaded"
words_of NoTemplate = codes "no template loaded"
words_of TooManyAliases = codes "too many aliases"
words_of NoSuchAlias = codes "no such alias"
words_of Unbound = codes "hole not bound"
words_of NoSuchHole = codes "no such hole"
words_of ScriptTooLong = codes "script too long"

-- four words parted by blanks: three numbers and a text
abbrev pub line : ℕ → ℕ → ℕ → List ℕ → List ℕ
line number layer place words = decimal number ++ (32 ∷ (decimal layer ++ (32 ∷ (decimal place ++ (32 ∷ words)))))

-- as a refusal is printed: number, layer, place and words
abbrev pub shown_of : Refusal → List ℕ
shown_of x = line (number_of x.reason) (layer_number (layer_of x.reason)) x.place (words_of x.reason)
