-- What the bytes of a sheet mean.
use Rattle.std.specs.Prelude.{◌≡◌, ℕ, ◌+◌, ◌-◌, ◌%◌, ◌^◌, ◌≤◌, List, [], ◌∷◌, ◌++◌, length, take, Some, Ok, Err, codes, decimal, Option, Result}
use Rattle.policy.specs.declared.fields.Header.{Header}
use Rattle.policy.specs.declared.rules.Range.{Range}
use Rattle.policy.specs.declared.rules.Rule.{Rule}
use Rattle.faults.specs.declared.SheetFault.{SheetFault}
use Rattle.sheet.specs.Readings.{span, address_low}

-- A port is `*`, a number up to 65535, or a low and a high end with a dash.
pub data Port (text : List ℕ) (s : Range) : Type 0 where
  every : text ≡ codes "*" → s ≡ span 0 65535 → Port text s
  single : (n : ℕ) → n ≤ 65535 → text ≡ decimal n → s ≡ span n n → Port text s
  between : (low high : ℕ) → low ≤ high → high ≤ 65535 → text ≡ decimal low ++ (codes "-" ++ decimal high) → s ≡ span low high → Port text s

-- An address is `*`, or four numbers up to 255 with dots, a slash and a length up to 32, where no bit
-- after the length is set: the block of all addresses that begin with those bits.
pub data Address (text : List ℕ) (s : Range) : Type 0 where
  every : text ≡ codes "*" → s ≡ span 0 4294967295 → Address text s
  block : (a b c d n : ℕ) → a ≤ 255 → b ≤ 255 → c ≤ 255 → d ≤ 255 → n ≤ 32 → address_low a b c d % 2 ^ (32 - n) ≡ 0 →
      text ≡ decimal a ++ (codes "." ++ (decimal b ++ (codes "." ++ (decimal c ++ (codes "." ++ (decimal d ++ (codes "/" ++ decimal n))))))) →
      s ≡ span (address_low a b c d) (address_low a b c d + (2 ^ (32 - n) - 1)) → Address text s

-- A protocol is `*`, a number up to 255, or one of three names.
pub data Protocol (text : List ℕ) (s : Range) : Type 0 where
  every : text ≡ codes "*" → s ≡ span 0 255 → Protocol text s
  single : (n : ℕ) → n ≤ 255 → text ≡ decimal n → s ≡ span n n → Protocol text s
  tcp : text ≡ codes "tcp" → s ≡ span 6 6 → Protocol text s
  udp : text ≡ codes "udp" → s ≡ span 17 17 → Protocol text s
  icmp : text ≡ codes "icmp" → s ≡ span 1 1 → Protocol text s

-- The bytes of the six fields of a line, and the ranges of the first five.
pub record Parts : Type 0 where
  pub source : List ℕ
  pub destination : List ℕ
  pub source_port : List ℕ
  pub destination_port : List ℕ
  pub protocol : List ℕ
  pub word : List ℕ
  pub sources : Range
  pub destinations : Range
  pub source_ports : Range
  pub destination_ports : Range
  pub protocols : Range

-- The line: the fields with commas between them, and a line feed.
abbrev pub joined : Parts → List ℕ
joined p =
    p.source ++ (44 ∷ (p.destination ++ (44 ∷ (p.source_port ++ (44 ∷ (p.destination_port ++ (44 ∷ (p.protocol ++ (44 ∷ (p.word ++ (10 ∷ [])))))))))))

-- A line means a rule: its fields mean the rule's ranges, and its word is that of the rule's code.
-- `code` gives the words of the kind their codes.
pub record Line (code : List ℕ → Option ℕ) (text : List ℕ) (rule : Rule) : Type 0 where
  pub parts : Parts
  pub text_is : text ≡ joined parts
  pub source_means : Address parts.source parts.sources
  pub destination_means : Address parts.destination parts.destinations
  pub source_port_means : Port parts.source_port parts.source_ports
  pub destination_port_means : Port parts.destination_port parts.destination_ports
  pub protocol_means : Protocol parts.protocol parts.protocols
  pub ranges_are : rule.ranges ≡ parts.sources ∷ parts.destinations ∷ parts.source_ports ∷ parts.destination_ports ∷ parts.protocols ∷ []
  pub word_means : code parts.word ≡ Some rule.code

-- The four numbers of an address, with dots.
pub record Dotted (text : List ℕ) (n : ℕ) : Type 0 where
  pub a : ℕ
  pub b : ℕ
  pub c : ℕ
  pub d : ℕ
  pub small : (a ≤ 255) × (b ≤ 255) × (c ≤ 255) × (d ≤ 255)
  pub text_is : text ≡ decimal a ++ (codes "." ++ (decimal b ++ (codes "." ++ (decimal c ++ (codes "." ++ decimal d)))))
  pub n_is : n ≡ address_low a b c d

-- A number up to the top.
abbrev pub UpTo : ℕ → List ℕ → ℕ → Type 0
UpTo top text n = (n ≤ top) × (text ≡ decimal n)

-- A line means a header: five fields with commas between them, each of which means a number, and a line
-- feed.
pub record HeaderLine (text : List ℕ) (header : Header) : Type 0 where
  pub source : List ℕ
  pub destination : List ℕ
  pub source_port : List ℕ
  pub destination_port : List ℕ
  pub protocol : List ℕ
  pub from : ℕ
  pub to : ℕ
  pub from_port : ℕ
  pub to_port : ℕ
  pub by : ℕ
  pub text_is : text ≡ source ++ (44 ∷ (destination ++ (44 ∷ (source_port ++ (44 ∷ (destination_port ++ (44 ∷ (protocol ++ (10 ∷ [])))))))))
  pub source_means : Dotted source from
  pub destination_means : Dotted destination to
  pub source_port_means : UpTo 65535 source_port from_port
  pub destination_port_means : UpTo 65535 destination_port to_port
  pub protocol_means : UpTo 255 protocol by
  pub numbers_are : header.numbers ≡ from ∷ to ∷ from_port ∷ to_port ∷ by ∷ []

-- A sheet means a list of rules, or of headers: it has a line for each. `Line` says what a line means.
pub data Means {A : Type 0} (Line : List ℕ → A → Type 0) : List ℕ → List A → Type 0 where
  nothing : Means Line [] []
  line : {text rest : List ℕ} {x : A} {xs : List A} → Line text x → Means Line rest xs → Means Line (text ++ rest) (x ∷ xs)

-- A sheet means one list at most.
abbrev pub OneMeaning : {A : Type 0} → (List ℕ → A → Type 0) → List ℕ → Type 0
OneMeaning {A} Line sheet = (xs others : List A) → Means Line sheet xs → Means Line sheet others → xs ≡ others

-- What a reading settles: a sheet that is read means what stands in the first places; one that is refused
-- is too long, or means no list that has at most 64 entries and fits the places.
abbrev pub Settles : {A : Type 0} → (List ℕ → A → Type 0) → List ℕ → List A → List A → Result ℕ SheetFault → Type 0
Settles {A} Line sheet was is (Ok count) = Means Line sheet (take count is)
Settles {A} Line sheet was is (Err fault) =
    (xs : List A) → Means Line sheet xs → length sheet ≤ 8192 → length xs ≤ 64 → length xs ≤ length was → ⊥
