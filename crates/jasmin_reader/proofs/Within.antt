-- Tokens in order are each within their text.
use Rattle.std.proofs.Common.{◌≡◌, ℕ, ◌≤◌, List, [], ◌∷◌, Ok, length, arith}
use Rattle.std.specs.List.{AllByRecursion}
use Rattle.jasmin_text.specs.declared.token.Token.{Token}
use Rattle.jasmin_text.specs.Spans.{AreInOrder}
use Rattle.jasmin_text.specs.Texts.{tokens_of}
use Rattle.jasmin_text.proofs.InOrder.{spans}
use Rattle.jasmin_lines.specs.Lexemes.{IsWithin}

reach : (from end : ℕ) (ts : List Token) → AreInOrder from end ts → from ≤ end
reach from end [] h = h
reach from end (t ∷ ts) h = omega (arith, h.0, h.1, reach t.to end ts h.2)

within : (from end : ℕ) (ts : List Token) → AreInOrder from end ts → AllByRecursion (IsWithin end) ts
within from end [] h = tt
within from end (t ∷ ts) h = ((h.1, reach t.to end ts h.2), within t.to end ts h.2)

pub tokens-within : (text : List ℕ) (ts : List Token) → tokens_of text ≡ Ok ts → AllByRecursion (IsWithin (length text)) ts
tokens-within text ts h = within 0 (length text) ts (spans text ts h)
