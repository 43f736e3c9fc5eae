-- Bytes: their names, and the class of each. Assumes nothing.
use Rattle.std.specs.Prelude.{ℕ, Bool, true, false, cond, ◌&&◌, ◌||◌, ◌==◌, nat_le}
use Rattle.basics.specs.Bytes.{newline, single_quote, backslash}
use Rattle.tokens.specs.declared.class.Class.{Class}
use Rattle.tokens.specs.declared.class.Class.TheVariants as class

abbrev pub tab : ℕ
tab = 9

abbrev pub space : ℕ
space = 32

abbrev pub double_quote : ℕ
double_quote = 34

abbrev pub hash : ℕ
hash = 35

abbrev pub dollar : ℕ
dollar = 36

abbrev pub amp : ℕ
amp = 38

abbrev pub open_paren : ℕ
open_paren = 40

abbrev pub close_paren : ℕ
close_paren = 41

abbrev pub minus : ℕ
minus = 45

abbrev pub semi : ℕ
semi = 59

abbrev pub less : ℕ
less = 60

abbrev pub equals : ℕ
equals = 61

abbrev pub great : ℕ
great = 62

abbrev pub underscore : ℕ
underscore = 95

abbrev pub backquote : ℕ
backquote = 96

abbrev pub open_brace : ℕ
open_brace = 123

abbrev pub bar : ℕ
bar = 124

abbrev pub close_brace : ℕ
close_brace = 125

abbrev pub is_blank : ℕ → Bool
is_blank b = b == space || b == tab

abbrev pub is_digit : ℕ → Bool
is_digit b = nat_le 48 b && nat_le b 57

-- an ASCII letter or `_`, which can begin a name
abbrev pub is_name_start : ℕ → Bool
is_name_start b = (nat_le 65 b && nat_le b 90) || ((nat_le 97 b && nat_le b 122) || b == underscore)

abbrev pub is_name_byte : ℕ → Bool
is_name_byte b = is_name_start b || is_digit b

abbrev pub class_of : ℕ → Class
class_of b =
    cond (b == newline) class.Newline
    (cond (is_blank b) class.Blank
    (cond (b == amp) class.Amp
    (cond (b == bar) class.Bar
    (cond (b == semi) class.Semi
    (cond (b == open_paren) class.Open
    (cond (b == close_paren) class.Close
    (cond (b == less) class.Less
    (cond (b == great) class.Great
    (cond (b == minus) class.Minus
    (cond (b == single_quote) class.SingleQuote
    (cond (b == double_quote) class.DoubleQuote
    (cond (b == backslash) class.Backslash
    (cond (b == dollar) class.Dollar
    (cond (b == backquote) class.Backquote
    (cond (b == hash) class.Hash
    class.Other)))))))))))))))

-- a byte of the class ends a word in command text: a blank, or the first byte of an operator
abbrev pub ends_word : Class → Bool
ends_word class.Newline = true
ends_word class.Blank = true
ends_word class.Amp = true
ends_word class.Bar = true
ends_word class.Semi = true
ends_word class.Open = true
ends_word class.Close = true
ends_word class.Less = true
ends_word class.Great = true
ends_word class.Minus = false
ends_word class.SingleQuote = false
ends_word class.DoubleQuote = false
ends_word class.Backslash = false
ends_word class.Dollar = false
ends_word class.Backquote = false
ends_word class.Hash = false
ends_word class.Other = false

-- a byte of the class begins a redirection
abbrev pub redirects : Class → Bool
redirects class.Newline = false
redirects class.Blank = false
redirects class.Amp = false
redirects class.Bar = false
redirects class.Semi = false
redirects class.Open = false
redirects class.Close = false
redirects class.Less = true
redirects class.Great = true
redirects class.Minus = false
redirects class.SingleQuote = false
redirects class.DoubleQuote = false
redirects class.Backslash = false
redirects class.Dollar = false
redirects class.Backquote = false
redirects class.Hash = false
redirects class.Other = false
