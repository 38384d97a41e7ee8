-- Which dates are days: the months as RFC 3339 (5.7) has them and the Gregorian leap rule, the year 0000 included.
use Rattle.std.specs.Prelude.{ℕ, ◌+◌, ◌-◌, ◌*◌, ◌%◌, Bool, cond, ◌&&◌, ◌||◌, not, List, [], ◌∷◌, get_or, eqb, leb}

-- every fourth year is a leap year, but of the years that end a century only every fourth
unfoldable pub leap_year : ℕ → Bool
leap_year y = (eqb (y % 4) 0 && not (eqb (y % 100) 0)) || eqb (y % 400) 0

-- the days of the months 1 to 12, in order
abbrev pub months : ℕ → List ℕ
months y = 31 ∷ cond (leap_year y) 29 28 ∷ 31 ∷ 30 ∷ 31 ∷ 30 ∷ 31 ∷ 31 ∷ 30 ∷ 31 ∷ 30 ∷ 31 ∷ []

-- the days of a month: a number that is none of 1 to 12 has none
unfoldable pub month_days : ℕ → ℕ → ℕ
month_days y m = get_or (0 ∷ months y) m 0

-- the numbers that one, two and four digits at i write
abbrev pub digit_at : List ℕ → ℕ → ℕ
digit_at s i = get_or s i 0 - 0x30

abbrev pub two_at : List ℕ → ℕ → ℕ
two_at s i = digit_at s i * 10 + digit_at s (i + 1)

abbrev pub four_at : List ℕ → ℕ → ℕ
four_at s i = two_at s i * 100 + two_at s (i + 2)

-- the date shape at i, year-month-day, is a day
unfoldable pub day_at : List ℕ → ℕ → Bool
day_at s i =
    let day = two_at s (i + 8) in
    leb 1 day && leb day (month_days (four_at s i) (two_at s (i + 5)))
