-- THE TABLES: document 01's readings that are marked P, in edition 1, and the smallest inputs of R-6, in edition 2; from
-- bytes to the answer's numbers and the words of both buffers.
-- Assumes nothing.
use Rattle.std.specs.Prelude.{List, [], ◌∷◌, ◌++◌, ℕ, zero, suc, ◌+◌, ◌-◌, ◌*◌, length, replicate}
use Rattle.grammar.specs.Records.{Rec}
use Rattle.quanta_token.specs.Text.{bytes}
use Rattle.quanta_token.specs.TokenKind.{TokenKind, code}
use Rattle.quanta_token.specs.TokenKind.{Ident, Int, Date, State, LBrace, RBrace, LParen, RParen, Comma, Semi, Colon, Eq, Plus, Lt, Gt, Ge, Shr, Eof}
use Rattle.quanta_token.specs.declared.edition.Edition.{Edition}
use Rattle.quanta_token.specs.declared.edition.Edition.TheVariants.{One, Two}
use Rattle.quanta_lexer.specs.Refusals.{barred_character, bare_date, leading_zero, other_byte, no_day}
use Rattle.quanta_lexer.specs.Tokens.{Tok, tok, records}
use Rattle.quanta_grammar.specs.NodeKind.{NodeKind, node_code, program_node, state_node, field_node, type_node}
use Rattle.quanta_grammar.specs.NodeKind.{assign_node, binary_node, name_node, int_node, date_node}
use Rattle.quanta_grammar.specs.RefusalKind.{RefusalKind, refusal_code, expected_token, expected_integer, expected_type}
use Rattle.quanta_grammar.specs.RefusalKind.{too_deep, bad_target, token_after_the_end}
use Rattle.quanta_grammar.specs.Productions.{Symbol, program_call, item_call, stmt_call, expr_call, type_call}
use Rattle.quanta_reading.specs.declared.outcome.Outcome.{Outcome}
use Rattle.quanta_reading.specs.Reading.{Reading, record_words, reading}
use Rattle.quanta_reading.specs.Values.{accepted, refused, values}

-- a call on a text in an edition; the numbers of its answer, its tokens and its records
pub record Row : Type 0 where
  pub edition : Edition
  pub call : Symbol
  pub source : List ℕ
  pub outcome : Outcome
  pub tokens : List Tok
  pub records : List Rec

-- in an edition: accepted with these tokens and records; refused in the tokens; refused in the bytes
abbrev accepts_in : Edition → Symbol → List ℕ → List Tok → List Rec → Row
accepts_in ed s source ts rs =
    record { edition = ed; call = s; source = source; outcome = accepted (length ts) (length rs); tokens = ts; records = rs }

abbrev refuses_in : Edition → Symbol → List ℕ → List Tok → Outcome → Row
refuses_in ed s source ts o =
    record { edition = ed; call = s; source = source; outcome = o; tokens = ts; records = [] }

abbrev stops_in : Edition → Symbol → List ℕ → ℕ → ℕ → ℕ → Row
stops_in ed s source k a e = refuses_in ed s source [] (refused k a e 0 0 0)

abbrev accepts : Symbol → List ℕ → List Tok → List Rec → Row
accepts = accepts_in One

abbrev refuses : Symbol → List ℕ → List Tok → Outcome → Row
refuses = refuses_in One

abbrev stops : Symbol → List ℕ → ℕ → ℕ → ℕ → Row
stops = stops_in One

abbrev t : TokenKind → ℕ → ℕ → Tok
t k a e = tok (code k) a e

-- kind, flag, own token, start, end, children
abbrev r : NodeKind → ℕ → ℕ → ℕ → ℕ → ℕ → Rec
r k f o a e n = record { kind = node_code k; flag = f; own = o; start = a; stop = e; count = n }

-- U+FEFF
abbrev mark : List ℕ
mark = 0xEF ∷ 0xBB ∷ 0xBF ∷ []

abbrev pub rows : List Row
rows =
    accepts program_call (bytes "") (t Eof 0 0 ∷ []) (r program_node 0 0 0 0 0 ∷ []) ∷
    accepts stmt_call (bytes "(a) = 1;") (t LParen 0 1 ∷ t Ident 1 2 ∷ t RParen 2 3 ∷ t Eq 4 5 ∷ t Int 6 7 ∷ t Semi 7 8 ∷ t Eof 8 8 ∷ [])
    (r name_node 0 1 1 2 0 ∷ r int_node 0 4 6 7 0 ∷ r assign_node 0 3 1 8 2 ∷ []) ∷
    stops expr_call (bytes "0_1") leading_zero 0 3 ∷
    stops expr_call (bytes "00") leading_zero 0 2 ∷
    accepts expr_call (bytes "0") (t Int 0 1 ∷ t Eof 1 1 ∷ []) (r int_node 0 0 0 1 0 ∷ []) ∷
    accepts expr_call (bytes "1_") (t Int 0 2 ∷ t Eof 2 2 ∷ []) (r int_node 0 0 0 2 0 ∷ []) ∷
    stops expr_call (bytes "2024-01-01") bare_date 0 10 ∷
    accepts expr_call (bytes "@2024-99-99") (t Date 0 11 ∷ t Eof 11 11 ∷ []) (r date_node 0 0 0 11 0 ∷ []) ∷
    stops expr_call (bytes "2024-01-011") leading_zero 5 7 ∷
    refuses stmt_call (bytes "a + b = 1;") (t Ident 0 1 ∷ t Plus 2 3 ∷ t Ident 4 5 ∷ t Eq 6 7 ∷ t Int 8 9 ∷ t Semi 9 10 ∷ t Eof 10 10 ∷ [])
    (refused (refusal_code bad_target) 0 5 0 0 0) ∷
    refuses type_call (bytes "Map<A, Map<B, C>>")
    (t Ident 0 3 ∷ t Lt 3 4 ∷ t Ident 4 5 ∷ t Comma 5 6 ∷ t Ident 7 10 ∷ t Lt 10 11 ∷ t Ident 11 12 ∷ t Comma 12 13 ∷ t Ident 14 15 ∷ t Shr 15 17 ∷ t Eof 17 17 ∷ [])
    (refused (refusal_code expected_token) 15 17 (code Gt) (code Shr) 0) ∷
    stops expr_call (mark ++ bytes "1") other_byte 0 1 ∷
    stops expr_call (bytes "1" ++ mark) barred_character 1 2 ∷
    stops expr_call (bytes ") #") other_byte 2 3 ∷
    []

-- EDITION 2: two closers close two lists; `>=` is never split, and an expression's `>>` is a shift; a Date that is a day
abbrev pub rows2 : List Row
rows2 =
    accepts_in Two type_call (bytes "A<B<C>>")
    (t Ident 0 1 ∷ t Lt 1 2 ∷ t Ident 2 3 ∷ t Lt 3 4 ∷ t Ident 4 5 ∷ t Shr 5 7 ∷ t Eof 7 7 ∷ [])
    (r type_node 0 4 4 5 0 ∷ r type_node 0 2 2 6 1 ∷ r type_node 0 0 0 7 1 ∷ []) ∷
    accepts_in Two item_call (bytes "state{a:A<B<C>>=1;}")
    (t State 0 5 ∷ t LBrace 5 6 ∷ t Ident 6 7 ∷ t Colon 7 8 ∷ t Ident 8 9 ∷ t Lt 9 10 ∷ t Ident 10 11 ∷ t Lt 11 12 ∷
    t Ident 12 13 ∷ t Shr 13 15 ∷ t Eq 15 16 ∷ t Int 16 17 ∷ t Semi 17 18 ∷ t RBrace 18 19 ∷ t Eof 19 19 ∷ [])
    (r name_node 0 2 6 7 0 ∷ r type_node 0 8 12 13 0 ∷ r type_node 0 6 10 14 1 ∷ r type_node 0 4 8 15 1 ∷
    r int_node 0 11 16 17 0 ∷ r field_node 2 3 6 18 3 ∷ r state_node 0 0 0 19 1 ∷ []) ∷
    accepts_in Two expr_call (bytes "a<b>>c")
    (t Ident 0 1 ∷ t Lt 1 2 ∷ t Ident 2 3 ∷ t Shr 3 5 ∷ t Ident 5 6 ∷ t Eof 6 6 ∷ [])
    (r name_node 0 0 0 1 0 ∷ r name_node 0 2 2 3 0 ∷ r name_node 0 4 5 6 0 ∷ r binary_node 13 3 2 6 2 ∷
    r binary_node 4 1 0 6 2 ∷ []) ∷
    accepts_in Two expr_call (bytes "@0000-02-29") (t Date 0 11 ∷ t Eof 11 11 ∷ []) (r date_node 0 0 0 11 0 ∷ []) ∷
    stops_in Two expr_call (bytes "@0000-00-00") no_day 0 11 ∷
    stops_in Two expr_call (bytes "2024-02-30") bare_date 0 10 ∷
    stops_in Two expr_call (bytes "@2024-02-301") other_byte 0 1 ∷
    stops_in Two expr_call (bytes "@2024-02-30x") no_day 0 11 ∷
    stops_in Two expr_call (bytes "00 @2024-02-30") leading_zero 0 2 ∷
    stops_in Two expr_call (bytes "@2024-02-30 00") no_day 0 11 ∷
    stops_in Two expr_call (bytes ") @2024-02-30") no_day 2 13 ∷
    []

-- a call on a text in edition 2, and the numbers of its refusal
pub record Refused2 : Type 0 where
  pub call : Symbol
  pub source : List ℕ
  pub outcome : Outcome

abbrev no : Symbol → List ℕ → RefusalKind → ℕ → ℕ → ℕ → TokenKind → Refused2
no s source k a e wanted found =
    record { call = s; source = source; outcome = refused (refusal_code k) a e wanted (code found) 0 }

-- 65 times `A<` and `>>`: 20, whose mark has both bytes and which carries no kind
abbrev deep : ℕ → List ℕ
deep zero = bytes ">>"
deep (suc n) = bytes "A<" ++ deep n

-- EDITION 2 REFUSES: a second closer that isn't wanted, at its byte; a `>>` whole where no list must close
abbrev pub refusals2 : List Refused2
refusals2 =
    no type_call (bytes "A<1>>") token_after_the_end 4 5 0 Gt ∷
    no type_call (bytes "A<>>") expected_type 2 4 0 Shr ∷
    no type_call (bytes "A<B,>>") expected_type 4 6 0 Shr ∷
    no type_call (bytes "A<1 of>>") expected_integer 6 8 0 Shr ∷
    no type_call (bytes "A>>") token_after_the_end 1 3 0 Shr ∷
    no item_call (bytes "state{a:A>>;}") expected_token 9 11 (code Semi) Shr ∷
    no item_call (bytes "state{a:A<B>>;}") expected_token 12 13 (code Semi) Gt ∷
    no item_call (bytes "event E(a:A<B>>);") expected_token 14 15 (code RParen) Gt ∷
    no type_call (bytes "A<B>>") token_after_the_end 4 5 0 Gt ∷
    no type_call (bytes "A<B>>>") token_after_the_end 4 5 0 Gt ∷
    no type_call (bytes "A<B>> x") token_after_the_end 4 5 0 Gt ∷
    no item_call (bytes "state{a:A<B>>=1;}") expected_token 12 13 (code Semi) Gt ∷
    no type_call (bytes "A<B<C>>>") token_after_the_end 7 8 0 Gt ∷
    no item_call (bytes "state{a:A<B<C<D>>>=1;}") expected_token 17 19 (code Gt) Ge ∷
    record { call = type_call; source = deep 65; outcome = refused (refusal_code too_deep) 130 132 0 0 0 } ∷
    []

-- what is seen of a reading: the numbers, and every word of both buffers
pub record Seen : Type 0 where
  pub outcome : Outcome
  pub tokens : List ℕ
  pub tree : List ℕ

-- words, then zeros up to so many
abbrev up_to : ℕ → List ℕ → List ℕ
up_to n ws = ws ++ replicate (n - length ws) 0

-- the word table is empty, and there is a record for each byte and one more
abbrev token_room : Row → ℕ
token_room x = 3 * (length x.source + 1)

abbrev tree_room : Row → ℕ
tree_room x = 6 * (length x.source + 1)

abbrev shown : Reading → Seen
shown x = record { outcome = values x.answer; tokens = x.tokens; tree = x.tree }

-- what the rows say, and what the readings are
abbrev pub said : List Row → List Seen
said [] = []
said (x ∷ xs) = record { outcome = x.outcome; tokens = up_to (token_room x) (records x.tokens); tree = up_to (tree_room x) (record_words x.records) } ∷ said xs

abbrev pub seen : List Row → List Seen
seen [] = []
seen (x ∷ xs) = shown (reading x.edition x.call x.source [] (token_room x) (tree_room x)) ∷ seen xs

-- the numbers of the refusals, and those of the readings
abbrev pub said_of : List Refused2 → List Outcome
said_of [] = []
said_of (x ∷ xs) = x.outcome ∷ said_of xs

abbrev pub seen_of : List Refused2 → List Outcome
seen_of [] = []
seen_of (x ∷ xs) =
    let n = length x.source + 1 in
    values (reading Two x.call x.source [] (3 * n) (6 * n)).answer ∷ seen_of xs
