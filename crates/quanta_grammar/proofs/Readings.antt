-- Readings of document 01 that concern tokens and answers: a row is a call, a source, its tokens and the answer; one theorem says that all rows hold.
-- Assumes nothing.
use mathlib.Core.Path.{◌≡◌, refl}
use mathlib.Core.List.{List, [], ◌∷◌}
use Prim.Native.Nat.{ℕ, zero, suc}
use Prim.Native.String.{String}
use lib.ListN.{length}
use Rattle.grammar.specs.Grammar.{yields}
use Rattle.grammar.specs.Records.{Rec, nodes, walk}
use Rattle.grammar.specs.Records as Records
use Rattle.grammar.specs.Reader.{read, deep}
use Rattle.quanta_token.specs.TokenKind.{TokenKind, code}
use Rattle.quanta_token.specs.TokenKind.{Ident, Int, Date, Str, Contract, Entry, State, Event, Limits, Colon, After, From, LBrace, RBrace, LParen, RParen, Let, Comma, Semi, Dot, Eq, Plus, Minus, Star, Slash, Percent, Lt, Gt, Le, Ge, EqEq, Ne, Bang, AndAnd, OrOr, Shr, Eof}
use Rattle.quanta_grammar.specs.NodeKind.{NodeKind, node_code}
use Rattle.quanta_grammar.specs.NodeKind.{program_node, contract_node, state_node, field_node, entry_node, limits_node, after_node, type_node, m_of_n_node, assign_node, let_node, name_node, int_node, date_node, str_node, unary_node, binary_node, access_node, call_node}
use Rattle.quanta_grammar.specs.RefusalKind.{refusal_code, expected_token, expected_integer, expected_type, expected_expression, too_deep, bad_target, token_after_the_end}
use Rattle.quanta_grammar.specs.Productions.{Symbol, program_call, item_call, stmt_call, expr_call, type_call}
use Rattle.quanta_grammar.specs.Refine.{Plain, text, Answer, accept, reject, answer}
use Rattle.quanta_token.specs.Text.{bytes, same}
use Rattle.quanta_token.specs.declared.edition.Edition.{Edition}
use Rattle.quanta_token.specs.declared.edition.Edition.TheVariants.{One, Two}

pub record Reading : Type 0 where
  pub call : Symbol
  pub source : String
  pub tokens : List Plain
  pub outcome : Answer

abbrev t : TokenKind → ℕ → ℕ → Plain
t k a b = record { kind = code k; start = a; stop = b }

-- a record: kind, flag, own token, start, end, children
abbrev r : NodeKind → ℕ → ℕ → ℕ → ℕ → ℕ → Rec
r k f o a b n = record { kind = node_code k; flag = f; own = o; start = a; stop = b; count = n }

abbrev row : Symbol → String → List Plain → Answer → Reading
row s src ts a = record { call = s; source = src; tokens = ts; outcome = a }

-- rows that both editions answer alike
abbrev pub alike : List Reading
alike =
    -- the lines marked P, from tokens on
    row program_call "" (t Eof 0 0 ∷ []) (accept (r program_node 0 0 0 0 0 ∷ [])) ∷
    row stmt_call "(a) = 1;" (t LParen 0 1 ∷ t Ident 1 2 ∷ t RParen 2 3 ∷ t Eq 4 5 ∷ t Int 6 7 ∷ t Semi 7 8 ∷ t Eof 8 8 ∷ [])
    (accept (r name_node 0 1 1 2 0 ∷ r int_node 0 4 6 7 0 ∷ r assign_node 0 3 1 8 2 ∷ [])) ∷
    row expr_call "0" (t Int 0 1 ∷ t Eof 1 1 ∷ []) (accept (r int_node 0 0 0 1 0 ∷ [])) ∷
    row expr_call "1_" (t Int 0 2 ∷ t Eof 2 2 ∷ []) (accept (r int_node 0 0 0 2 0 ∷ [])) ∷
    row expr_call "@2024-99-99" (t Date 0 11 ∷ t Eof 11 11 ∷ []) (accept (r date_node 0 0 0 11 0 ∷ [])) ∷
    row stmt_call "a + b = 1;" (t Ident 0 1 ∷ t Plus 2 3 ∷ t Ident 4 5 ∷ t Eq 6 7 ∷ t Int 8 9 ∷ t Semi 9 10 ∷ t Eof 10 10 ∷ []) (reject (refusal_code bad_target) 0 5 0 0) ∷
    -- further readings
    row expr_call "(" (t LParen 0 1 ∷ t Eof 1 1 ∷ []) (reject (refusal_code expected_expression) 1 1 0 (code Eof)) ∷
    row expr_call ")" (t RParen 0 1 ∷ t Eof 1 1 ∷ []) (reject (refusal_code expected_expression) 0 1 0 (code RParen)) ∷
    row expr_call "\"\\\"" (t Str 0 3 ∷ t Eof 3 3 ∷ []) (accept (r str_node 0 0 0 3 0 ∷ [])) ∷
    row expr_call "of of" (t Ident 0 2 ∷ t Ident 3 5 ∷ t Eof 5 5 ∷ []) (reject (refusal_code token_after_the_end) 3 5 0 (code Ident)) ∷
    row type_call "Q<2 of 3>" (t Ident 0 1 ∷ t Lt 1 2 ∷ t Int 2 3 ∷ t Ident 4 6 ∷ t Int 7 8 ∷ t Gt 8 9 ∷ t Eof 9 9 ∷ [])
    (accept (r int_node 0 2 2 3 0 ∷ r int_node 0 4 7 8 0 ∷ r m_of_n_node 0 3 2 8 2 ∷ r type_node 0 0 0 9 1 ∷ [])) ∷
    row program_call "contract C { }" (t Contract 0 8 ∷ t Ident 9 10 ∷ t LBrace 11 12 ∷ t RBrace 13 14 ∷ t Eof 14 14 ∷ [])
    (accept (r name_node 0 1 9 10 0 ∷ r contract_node 0 0 0 14 1 ∷ r program_node 0 4 0 14 1 ∷ [])) ∷
    row program_call "contract C{entry e() after 3 day {}}"
    (t Contract 0 8 ∷ t Ident 9 10 ∷ t LBrace 10 11 ∷ t Entry 11 16 ∷ t Ident 17 18 ∷ t LParen 18 19 ∷ t RParen 19 20 ∷ t After 21 26 ∷ t Int 27 28 ∷ t Ident 29 32 ∷ t LBrace 33 34 ∷ t RBrace 34 35 ∷ t RBrace 35 36 ∷ t Eof 36 36 ∷ [])
    (reject (refusal_code expected_token) 29 32 (code LBrace) (code Ident)) ∷
    row program_call "contract C{entry e() after 3 days from x {}}"
    (t Contract 0 8 ∷ t Ident 9 10 ∷ t LBrace 10 11 ∷ t Entry 11 16 ∷ t Ident 17 18 ∷ t LParen 18 19 ∷ t RParen 19 20 ∷ t After 21 26 ∷ t Int 27 28 ∷ t Ident 29 33 ∷ t From 34 38 ∷ t Ident 39 40 ∷ t LBrace 41 42 ∷ t RBrace 42 43 ∷ t RBrace 43 44 ∷ t Eof 44 44 ∷ [])
    (accept (r name_node 0 1 9 10 0 ∷ r name_node 0 4 17 18 0 ∷ r int_node 0 8 27 28 0 ∷ r name_node 0 9 29 33 0 ∷ r name_node 0 11 39 40 0 ∷ r after_node 3 7 21 40 3 ∷ r entry_node 0 3 11 43 2 ∷ r contract_node 0 0 0 44 2 ∷ r program_node 0 15 0 44 1 ∷ [])) ∷
    -- the levels, loosest first, left-grouping
    row expr_call "a - b - c" (t Ident 0 1 ∷ t Minus 2 3 ∷ t Ident 4 5 ∷ t Minus 6 7 ∷ t Ident 8 9 ∷ t Eof 9 9 ∷ [])
    (accept (r name_node 0 0 0 1 0 ∷ r name_node 0 2 4 5 0 ∷ r binary_node 9 1 0 5 2 ∷ r name_node 0 4 8 9 0 ∷ r binary_node 9 3 0 9 2 ∷ [])) ∷
    row expr_call "a || b && c == d < e >> f + g * -h.i" (t Ident 0 1 ∷ t OrOr 2 4 ∷ t Ident 5 6 ∷ t AndAnd 7 9 ∷ t Ident 10 11 ∷ t EqEq 12 14 ∷ t Ident 15 16 ∷ t Lt 17 18 ∷ t Ident 19 20 ∷ t Shr 21 23 ∷ t Ident 24 25 ∷ t Plus 26 27 ∷ t Ident 28 29 ∷ t Star 30 31 ∷ t Minus 32 33 ∷ t Ident 33 34 ∷ t Dot 34 35 ∷ t Ident 35 36 ∷ t Eof 36 36 ∷ [])
    (accept (r name_node 0 0 0 1 0 ∷ r name_node 0 2 5 6 0 ∷ r name_node 0 4 10 11 0 ∷ r name_node 0 6 15 16 0 ∷ r name_node 0 8 19 20 0 ∷ r name_node 0 10 24 25 0 ∷ r name_node 0 12 28 29 0 ∷ r name_node 0 15 33 34 0 ∷ r name_node 0 17 35 36 0 ∷ r access_node 0 16 33 36 2 ∷ r unary_node 1 14 32 36 1 ∷ r binary_node 10 13 28 36 2 ∷ r binary_node 8 11 24 36 2 ∷ r binary_node 13 9 19 36 2 ∷ r binary_node 4 7 15 36 2 ∷ r binary_node 2 5 10 36 2 ∷ r binary_node 1 3 5 36 2 ∷ r binary_node 0 1 0 36 2 ∷ [])) ∷
    row expr_call "a != b >= c > d <= e - f % g / !h" (t Ident 0 1 ∷ t Ne 2 4 ∷ t Ident 5 6 ∷ t Ge 7 9 ∷ t Ident 10 11 ∷ t Gt 12 13 ∷ t Ident 14 15 ∷ t Le 16 18 ∷ t Ident 19 20 ∷ t Minus 21 22 ∷ t Ident 23 24 ∷ t Percent 25 26 ∷ t Ident 27 28 ∷ t Slash 29 30 ∷ t Bang 31 32 ∷ t Ident 32 33 ∷ t Eof 33 33 ∷ [])
    (accept (r name_node 0 0 0 1 0 ∷ r name_node 0 2 5 6 0 ∷ r name_node 0 4 10 11 0 ∷ r binary_node 7 3 5 11 2 ∷ r name_node 0 6 14 15 0 ∷ r binary_node 5 5 5 15 2 ∷ r name_node 0 8 19 20 0 ∷ r name_node 0 10 23 24 0 ∷ r name_node 0 12 27 28 0 ∷ r binary_node 12 11 23 28 2 ∷ r name_node 0 15 32 33 0 ∷ r unary_node 0 14 31 33 1 ∷ r binary_node 11 13 23 33 2 ∷ r binary_node 9 9 19 33 2 ∷ r binary_node 6 7 5 33 2 ∷ r binary_node 3 1 0 33 2 ∷ [])) ∷
    row expr_call "a > b >= c" (t Ident 0 1 ∷ t Gt 2 3 ∷ t Ident 4 5 ∷ t Ge 6 8 ∷ t Ident 9 10 ∷ t Eof 10 10 ∷ [])
    (accept (r name_node 0 0 0 1 0 ∷ r name_node 0 2 4 5 0 ∷ r binary_node 5 1 0 5 2 ∷ r name_node 0 4 9 10 0 ∷
    r binary_node 7 3 0 10 2 ∷ [])) ∷
    -- a `>>` that closes no list
    row expr_call "a >> b" (t Ident 0 1 ∷ t Shr 2 4 ∷ t Ident 5 6 ∷ t Eof 6 6 ∷ [])
    (accept (r name_node 0 0 0 1 0 ∷ r name_node 0 2 5 6 0 ∷ r binary_node 13 1 0 6 2 ∷ [])) ∷
    row expr_call "a >> >> b" (t Ident 0 1 ∷ t Shr 2 4 ∷ t Shr 5 7 ∷ t Ident 8 9 ∷ t Eof 9 9 ∷ [])
    (reject (refusal_code expected_expression) 5 7 0 (code Shr)) ∷
    row item_call "entry e()limits a<b>>c{}"
    (t Entry 0 5 ∷ t Ident 6 7 ∷ t LParen 7 8 ∷ t RParen 8 9 ∷ t Limits 9 15 ∷ t Ident 16 17 ∷ t Lt 17 18 ∷
    t Ident 18 19 ∷ t Shr 19 21 ∷ t Ident 21 22 ∷ t LBrace 22 23 ∷ t RBrace 23 24 ∷ t Eof 24 24 ∷ [])
    (accept (r name_node 0 1 6 7 0 ∷ r name_node 0 5 16 17 0 ∷ r name_node 0 7 18 19 0 ∷ r name_node 0 9 21 22 0 ∷
    r binary_node 13 8 18 22 2 ∷ r binary_node 4 6 16 22 2 ∷ r limits_node 0 4 9 22 1 ∷ r entry_node 0 0 0 24 2 ∷ [])) ∷
    row type_call "Q>>" (t Ident 0 1 ∷ t Shr 1 3 ∷ t Eof 3 3 ∷ [])
    (reject (refusal_code token_after_the_end) 1 3 0 (code Shr)) ∷
    row type_call "Q<>>" (t Ident 0 1 ∷ t Lt 1 2 ∷ t Shr 2 4 ∷ t Eof 4 4 ∷ [])
    (reject (refusal_code expected_type) 2 4 0 (code Shr)) ∷
    row type_call "Q<1 of>>" (t Ident 0 1 ∷ t Lt 1 2 ∷ t Int 2 3 ∷ t Ident 4 6 ∷ t Shr 6 8 ∷ t Eof 8 8 ∷ [])
    (reject (refusal_code expected_integer) 6 8 0 (code Shr)) ∷
    -- spans out of order: those that are joined, and no others
    row expr_call "" (t Ident 50 51 ∷ t LParen 10 11 ∷ t Ident 90 91 ∷ t RParen 52 53 ∷ t Eof 0 0 ∷ [])
    (accept (r name_node 0 0 50 51 0 ∷ r name_node 0 2 90 91 0 ∷ r call_node 0 1 50 53 2 ∷ [])) ∷
    row stmt_call "" (t Let 50 51 ∷ t Ident 0 1 ∷ t Eq 2 3 ∷ t Int 98 99 ∷ t Semi 60 61 ∷ t Eof 0 0 ∷ [])
    (accept (r name_node 0 1 0 1 0 ∷ r int_node 0 3 98 99 0 ∷ r let_node 0 0 50 61 2 ∷ [])) ∷
    []

-- .. and one that they do not: in edition 2 a `>>` where a type list must close is two closers
abbrev nested : Answer → Reading
nested = row type_call "Map<A, Map<B, C>>"
    (t Ident 0 3 ∷ t Lt 3 4 ∷ t Ident 4 5 ∷ t Comma 5 6 ∷ t Ident 7 10 ∷ t Lt 10 11 ∷ t Ident 11 12 ∷ t Comma 12 13 ∷
    t Ident 14 15 ∷ t Shr 15 17 ∷ t Eof 17 17 ∷ [])

-- IN EDITION 1
abbrev pub readings : List Reading
readings = nested (reject (refusal_code expected_token) 15 17 (code Gt) (code Shr)) ∷ alike

-- IN EDITION 2, where the second closer may not be wanted
abbrev pub readings2 : List Reading
readings2 =
    nested
    (accept (r type_node 0 2 4 5 0 ∷ r type_node 0 6 11 12 0 ∷ r type_node 0 8 14 15 0 ∷ r type_node 0 4 7 16 2 ∷
    r type_node 0 0 0 17 2 ∷ [])) ∷
    row type_call "Q<A>>" (t Ident 0 1 ∷ t Lt 1 2 ∷ t Ident 2 3 ∷ t Shr 3 5 ∷ t Eof 5 5 ∷ [])
    (reject (refusal_code token_after_the_end) 4 5 0 (code Gt)) ∷
    row type_call "Q<1>>" (t Ident 0 1 ∷ t Lt 1 2 ∷ t Int 2 3 ∷ t Shr 3 5 ∷ t Eof 5 5 ∷ [])
    (reject (refusal_code token_after_the_end) 4 5 0 (code Gt)) ∷
    row type_call "Q<1 of 2>>"
    (t Ident 0 1 ∷ t Lt 1 2 ∷ t Int 2 3 ∷ t Ident 4 6 ∷ t Int 7 8 ∷ t Shr 8 10 ∷ t Eof 10 10 ∷ [])
    (reject (refusal_code token_after_the_end) 9 10 0 (code Gt)) ∷
    row type_call "Q<A<B<C>>"
    (t Ident 0 1 ∷ t Lt 1 2 ∷ t Ident 2 3 ∷ t Lt 3 4 ∷ t Ident 4 5 ∷ t Lt 5 6 ∷ t Ident 6 7 ∷ t Shr 7 9 ∷
    t Eof 9 9 ∷ [])
    (reject (refusal_code expected_token) 9 9 (code Gt) (code Eof)) ∷
    row type_call "Q<A<B>>>"
    (t Ident 0 1 ∷ t Lt 1 2 ∷ t Ident 2 3 ∷ t Lt 3 4 ∷ t Ident 4 5 ∷ t Shr 5 7 ∷ t Gt 7 8 ∷ t Eof 8 8 ∷ [])
    (reject (refusal_code token_after_the_end) 7 8 0 (code Gt)) ∷
    row type_call "Q<A<B>>, C>"
    (t Ident 0 1 ∷ t Lt 1 2 ∷ t Ident 2 3 ∷ t Lt 3 4 ∷ t Ident 4 5 ∷ t Shr 5 7 ∷ t Comma 7 8 ∷ t Ident 9 10 ∷
    t Gt 10 11 ∷ t Eof 11 11 ∷ [])
    (reject (refusal_code token_after_the_end) 7 8 0 (code Comma)) ∷
    row item_call "state{a:Q<A>>=1;}"
    (t State 0 5 ∷ t LBrace 5 6 ∷ t Ident 6 7 ∷ t Colon 7 8 ∷ t Ident 8 9 ∷ t Lt 9 10 ∷ t Ident 10 11 ∷ t Shr 11 13 ∷
    t Eq 13 14 ∷ t Int 14 15 ∷ t Semi 15 16 ∷ t RBrace 16 17 ∷ t Eof 17 17 ∷ [])
    (reject (refusal_code expected_token) 12 13 (code Semi) (code Gt)) ∷
    row item_call "state{a:Q<A<B>>=1;}"
    (t State 0 5 ∷ t LBrace 5 6 ∷ t Ident 6 7 ∷ t Colon 7 8 ∷ t Ident 8 9 ∷ t Lt 9 10 ∷ t Ident 10 11 ∷ t Lt 11 12 ∷
    t Ident 12 13 ∷ t Shr 13 15 ∷ t Eq 15 16 ∷ t Int 16 17 ∷ t Semi 17 18 ∷ t RBrace 18 19 ∷ t Eof 19 19 ∷ [])
    (accept (r name_node 0 2 6 7 0 ∷ r type_node 0 8 12 13 0 ∷ r type_node 0 6 10 14 1 ∷ r type_node 0 4 8 15 1 ∷
    r int_node 0 11 16 17 0 ∷ r field_node 2 3 6 18 3 ∷ r state_node 0 0 0 19 1 ∷ [])) ∷
    row item_call "state{a:Q<A<B<C>>>=1;}"
    (t State 0 5 ∷ t LBrace 5 6 ∷ t Ident 6 7 ∷ t Colon 7 8 ∷ t Ident 8 9 ∷ t Lt 9 10 ∷ t Ident 10 11 ∷ t Lt 11 12 ∷
    t Ident 12 13 ∷ t Lt 13 14 ∷ t Ident 14 15 ∷ t Shr 15 17 ∷ t Ge 17 19 ∷ t Int 19 20 ∷ t Semi 20 21 ∷
    t RBrace 21 22 ∷ t Eof 22 22 ∷ [])
    (reject (refusal_code expected_token) 17 19 (code Gt) (code Ge)) ∷
    row item_call "event e(a:Q<A>>);"
    (t Event 0 5 ∷ t Ident 6 7 ∷ t LParen 7 8 ∷ t Ident 8 9 ∷ t Colon 9 10 ∷ t Ident 10 11 ∷ t Lt 11 12 ∷
    t Ident 12 13 ∷ t Shr 13 15 ∷ t RParen 15 16 ∷ t Semi 16 17 ∷ t Eof 17 17 ∷ [])
    (reject (refusal_code expected_token) 14 15 (code RParen) (code Gt)) ∷
    []

-- each row's call answers as the row says
abbrev pub outcomes : List Reading → List Answer
outcomes [] = []
outcomes (x ∷ xs) = x.outcome ∷ outcomes xs

abbrev pub answers : Edition → List Reading → List Answer
answers e [] = []
answers e (x ∷ xs) = answer x.call (text e (bytes x.source)) x.tokens ∷ answers e xs

pub all_hold : answers One readings ≡ outcomes readings
unfolding answer read deep yields nodes walk Records.records same
all_hold = refl

pub alike_hold : answers Two alike ≡ outcomes alike
unfolding answer read deep yields nodes walk Records.records same
alike_hold = refl

pub all_hold2 : answers Two readings2 ≡ outcomes readings2
unfolding answer read deep yields nodes walk Records.records same
all_hold2 = refl

-- where the limit falls: how many records, or the refusal. 64 and 65 ones joined by `+`; 1 in 63 and 64 parentheses;
-- 41 ones joined by `+` in parentheses, then 40 times `+1`, and without the parentheses
pub data Verdict : Type 0 where
  accepted : ℕ → Verdict
  refused_at : ℕ → ℕ → ℕ → Verdict

abbrev verdict : Answer → Verdict
verdict (accept rs) = accepted (length rs)
verdict (reject n a b w f) = refused_at n a b

-- n opening parentheses from the offset k on, and what f gives behind them; n closing ones, and the end
abbrev opened : ℕ → ℕ → (ℕ → List Plain) → List Plain
opened zero k f = f k
opened (suc n) k f = t LParen k (suc k) ∷ opened n (suc k) f

abbrev shuts : ℕ → ℕ → (ℕ → List Plain) → List Plain
shuts zero k f = f k
shuts (suc n) k f = t RParen k (suc k) ∷ shuts n (suc k) f

-- the end
abbrev over : ℕ → List Plain
over k = t Eof k k ∷ []

-- n times `+1` from the offset k on, and what f gives behind them
abbrev plus_ones : ℕ → ℕ → (ℕ → List Plain) → List Plain
plus_ones zero k f = f k
plus_ones (suc n) k f = t Plus k (suc k) ∷ t Int (suc k) (suc (suc k)) ∷ plus_ones n (suc (suc k)) f

abbrev deeps : List (List Plain × Verdict)
deeps =
    (t Int 0 1 ∷ plus_ones 63 1 over, accepted 127) ∷
    (t Int 0 1 ∷ plus_ones 64 1 over, refused_at (refusal_code too_deep) 128 129) ∷
    (opened 63 0 (λ k. t Int k (suc k) ∷ shuts 63 (suc k) over), accepted 1) ∷
    (opened 64 0 (λ k. t Int k (suc k) ∷ shuts 64 (suc k) over), refused_at (refusal_code too_deep) 64 65) ∷
    (opened 1 0 (λ k. t Int k (suc k) ∷ plus_ones 40 (suc k) (λ k. shuts 1 k (λ k. plus_ones 40 k over))), accepted 161) ∷
    (t Int 0 1 ∷ plus_ones 80 1 over, refused_at (refusal_code too_deep) 128 129) ∷
    []

abbrev deep_answers : Edition → List (List Plain × Verdict) → List Verdict
deep_answers e [] = []
deep_answers e (x ∷ xs) = verdict (answer expr_call (text e []) x.0) ∷ deep_answers e xs

abbrev deep_outcomes : List (List Plain × Verdict) → List Verdict
deep_outcomes [] = []
deep_outcomes (x ∷ xs) = x.1 ∷ deep_outcomes xs

pub limits_hold : (e : Edition) → deep_answers e deeps ≡ deep_outcomes deeps
unfolding answer read deep yields nodes walk Records.records same
limits_hold One = refl
limits_hold Two = refl
