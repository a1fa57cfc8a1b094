-- A message as what it holds, and which frames are in range and well-formed. Assumes nothing.
use Rattle.std.specs.Prelude.{◌≡◌, ℕ, Bool, cond, ◌&&◌, List, [], ◌∷◌, length, map, Some, None, Option, nat_le, slice_index}
use Rattle.std.proofs.Common.{refl, ap}
use Rattle.pd.specs.declared.header.Header.{Header}
use Rattle.pd.specs.declared.kind.Kind.{Kind}
use Rattle.pd.specs.declared.message.Message.{Message}
use Rattle.pd.specs.Held.{held, same_bytes}
use Rattle.pd.specs.Kinds.{number_of, kind_at, is_message}
use Rattle.pd.specs.Lengths.{shortest, longest}

-- what a message holds: its kind and its bytes
pub record Content : Type 0 where
  pub kind : Kind
  pub bytes : List ℕ

abbrev pub content : Message → Content
content m = record { kind = m.kind; bytes = held m.bytes }

abbrev pub contents : Option Message → Option Content
contents None = None
contents (Some m) = Some (content m)

-- messages of equal contents are equal, alone, where one may be missing, and in a list
pub same_message : (a b : Message) → content a ≡ content b → a ≡ b
same_message a b h = λ i. record { kind = (h i).kind; bytes = same_bytes a.bytes b.bytes (ap (λ c. c.bytes) h) i }

pub same_option : (a b : Option Message) → contents a ≡ contents b → a ≡ b
same_option None None h = refl
same_option (Some x) (Some y) h =
    let both : content x ≡ content y = cc in
    ap Some (same_message x y both)
same_option a b h = cc

pub same_messages : (xs ys : List Message) → map content xs ≡ map content ys → xs ≡ ys
same_messages [] [] h = refl
same_messages [] (y ∷ ys) h = cc
same_messages (x ∷ xs) [] h = cc
same_messages (x ∷ xs) (y ∷ ys) h =
    let first : content x ≡ content y = cc in
    let later : map content xs ≡ map content ys = cc in
    λ i. same_message x y first i ∷ same_messages xs ys later i

-- a kind without bytes
abbrev pub empty : Kind → Content
empty k = record { kind = k; bytes = [] }

-- a message is made of any bytes that are not too many
abbrev pub of_kind : Kind → List ℕ → Option Content
of_kind k bytes = cond (nat_le (length bytes) longest) (Some (record { kind = k; bytes = bytes })) None

-- a frame that has the type of a message and a length that messages have
abbrev pub in_range : ℕ → List ℕ → Bool
in_range number bytes = is_message number && nat_le shortest (length bytes) && nat_le (length bytes) longest

-- the kind of a number, with these bytes
abbrev pub with_bytes : Option Kind → List ℕ → Option Content
with_bytes None bytes = None
with_bytes (Some k) bytes = Some (record { kind = k; bytes = bytes })

-- what arrives as this number and these bytes
abbrev pub arrived : ℕ → List ℕ → Option Content
arrived number bytes = cond (in_range number bytes) (with_bytes (kind_at number) bytes) None

-- a frame that may be taken for one: at present, any in range
abbrev pub well_formed : Content → Bool
well_formed c = in_range (number_of c.kind) c.bytes

-- the first two bytes
abbrev pub header : List ℕ → Header
header bytes = record { low = slice_index bytes 0; high = slice_index bytes 1 }
