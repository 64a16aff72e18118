-- The end of a reply, as its reader is told.
use Rattle.std.proofs.Common.{◌≡◌, ℕ, ◌/◌, ◌<◌, ◌^◌, Bool, true, false, List, [], ◌∷◌, ◌++◌, length, refl, arith, decimal, Option, Some, None, codes, filter, inl, inr, ap, subst, ◌∙◌}
use Rattle.std.specs.Prelude.{◌||◌, ◌==◌, nat_lt, count_by, if◌then◌else◌, option_map}
use Rattle.std.specs.Char.{is_ascii_digit}
use Rattle.std.specs.List.{list_all}
use Rattle.std.specs.Str.{str_eq_ignore_ascii_case}
use Rattle.std.proofs.lemmas.Bool.{lt-ltb, ne_eqb}
use Rattle.std.proofs.lemmas.Fmt.{decimal_nonempty}
use Rattle.std.proofs.lemmas.List.{append-nil, map-append}
use Rattle.std.proofs.lemmas.List.Concat.{flat_map-append}
use Rattle.std.proofs.lemmas.List.Elements.{filter-append}
use Rattle.std.proofs.lemmas.List.Folds.{list_any-append}
use Rattle.std.proofs.lemmas.List.Sums.{list_all-from_AllPass}
use Rattle.httparse.specs.Grammar.{trim_ows}
use Rattle.host_base.specs.declared.cause.Cause.TheVariants.{UpgradeNeeded}
use Rattle.host_base.specs.declared.fields.Field.{Field}
use Rattle.host_base.specs.declared.reply.Reply.{Reply}
use Rattle.host_base.specs.declared.request.Version.{Version}
use Rattle.host_base.specs.declared.request.Version.TheVariants.{V10, V11}
use Rattle.host_base.specs.FieldLists.{field_words, is_named, value_of, values_named}
use Rattle.reply_writer.specs.declared.shape.Shape.{Shape}
use Rattle.reply_writer.specs.declared.shape.Shape.TheVariants.{Bare, Length, Chunked, ToClose}
use Rattle.reply_writer.specs.ReadEnd.{EndsReadBack, FaultsLeaveEnd, HeadsStandAlone, LeavesEnd, OldVersionsHaveNoCoding, StandsAlone, framing_by, one_length, read_framing, says_close}
use Rattle.reply_writer.specs.Dates.{date_text_of}
use Rattle.reply_writer.specs.Spelling.{closing_fields, dated, framing_fields, head_fields, is_head_alone, named_field}
use Rattle.reply_writer.specs.WholeReply.{IsWholeBody, Way, head_of, open_shape, shape_of, stamped}
use Rattle.reply_writer.proofs.NumberLaws.{decimal_digits, digits_value-decimal}

or_true_right : (b : Bool) → (b || true) ≡ true
or_true_right true = refl
or_true_right false = refl

pub values_named-append : (name : List ℕ) (xs ys : List Field)
    → values_named name (xs ++ ys) ≡ values_named name xs ++ values_named name ys
values_named-append name xs ys =
    rw filter-append (map-append value_of (filter (is_named name) xs) (filter (is_named name) ys))

says_close-append : (xs ys : List Field) → says_close (xs ++ ys) ≡ (says_close xs || says_close ys)
says_close-append xs ys =
    rw (values_named-append (codes "Connection") xs ys, flat_map-append)
    (list_any-append (str_eq_ignore_ascii_case (codes "close")) (field_words (codes "Connection") xs) (field_words (codes "Connection") ys))

closing_has_no_length : (close : Bool) → values_named (codes "Content-Length") (closing_fields close) ≡ []
closing_has_no_length true = refl
closing_has_no_length false = refl

closing_has_no_coding : (close : Bool) → values_named (codes "Transfer-Encoding") (closing_fields close) ≡ []
closing_has_no_coding true = refl
closing_has_no_coding false = refl

closing_says : (close : Bool) → says_close (closing_fields close) ≡ close
unfolding trim_ows
closing_says true = refl
closing_says false = refl

-- the Content-Length that a head has
pub lengths_of_head : (reply : Reply) (shape : Shape) (close : Bool) → LeavesEnd reply
    → values_named (codes "Content-Length") (head_fields reply shape close) ≡ values_named (codes "Content-Length") (framing_fields shape)
lengths_of_head reply shape close leaves =
    rw (
      values_named-append (codes "Content-Length") (reply.fields ++ framing_fields shape) (closing_fields close),
      values_named-append (codes "Content-Length") reply.fields (framing_fields shape),
      leaves.lengths,
      closing_has_no_length close,
      append-nil,
    )

pub codings_of_head : (reply : Reply) (shape : Shape) (close : Bool) → LeavesEnd reply
    → values_named (codes "Transfer-Encoding") (head_fields reply shape close) ≡ values_named (codes "Transfer-Encoding") (framing_fields shape)
codings_of_head reply shape close leaves =
    rw (
      values_named-append (codes "Transfer-Encoding") (reply.fields ++ framing_fields shape) (closing_fields close),
      values_named-append (codes "Transfer-Encoding") reply.fields (framing_fields shape),
      leaves.codings,
      closing_has_no_coding close,
      append-nil,
    )

framing_says_nothing : (shape : Shape) → says_close (framing_fields shape) ≡ false
framing_says_nothing Bare = refl
framing_says_nothing _ = refl

head_closes : (reply : Reply) (shape : Shape) (close : Bool) → LeavesEnd reply
    → says_close (head_fields reply shape close) ≡ close
head_closes reply shape close leaves =
    rw (
      says_close-append (reply.fields ++ framing_fields shape) (closing_fields close),
      says_close-append reply.fields (framing_fields shape),
      leaves.closes,
      framing_says_nothing shape,
    ) (closing_says close)

-- a written number is read as a length
one_length-decimal : (n : ℕ) → n < 2 ^ 64 → one_length (decimal n ∷ []) ≡ Some n
one_length-decimal n fits =
    let filled : nat_lt 0 (length (decimal n)) ≡ true = lt-ltb 0 (length (decimal n)) (decimal_nonempty n fits) in
    let digits : list_all is_ascii_digit (decimal n) ≡ true = list_all-from_AllPass is_ascii_digit (decimal n) (decimal_digits n) in
    rw (filled, digits, digits_value-decimal n fits)

-- a Date says nothing of the end
pub leaves_dated : (date : Option (List ℕ)) (reply : Reply) → LeavesEnd reply → LeavesEnd (dated date reply)
leaves_dated None reply leaves = leaves
leaves_dated (Some date) reply leaves = by_test (count_by (is_named (codes "Date")) reply.fields == 0)
  where
    by_test : (b : Bool)
        → LeavesEnd (record reply { fields = (if b then reply.fields ++ named_field (codes "Date") date ∷ [] else reply.fields) })
    by_test true = record {
      final = leaves.final;
      lengths = rw (values_named-append (codes "Content-Length") reply.fields (named_field (codes "Date") date ∷ []), leaves.lengths);
      codings = rw (values_named-append (codes "Transfer-Encoding") reply.fields (named_field (codes "Date") date ∷ []), leaves.codings);
      closes = rw (says_close-append reply.fields (named_field (codes "Date") date ∷ []), leaves.closes);
    }
    by_test false = leaves

-- a framing that something may follow
abbrev MayBeFollowed : Shape → Type 0
MayBeFollowed Bare = ⊥
MayBeFollowed (Length n) = n < 2 ^ 64
MayBeFollowed Chunked = Unit {0}
MayBeFollowed ToClose = Unit {0}

framing_told : (shape : Shape) → MayBeFollowed shape
    → framing_by (field_words (codes "Transfer-Encoding") (framing_fields shape)) (values_named (codes "Content-Length") (framing_fields shape)) ≡ Some shape
unfolding trim_ows
framing_told Bare followed = absurd followed
framing_told (Length n) fits = ap (option_map Length) (one_length-decimal n fits)
framing_told Chunked followed = refl
framing_told ToClose followed = refl

framing_read : (reply : Reply) (shape : Shape) (close : Bool) → LeavesEnd reply → MayBeFollowed shape
    → framing_by (field_words (codes "Transfer-Encoding") (head_fields reply shape close)) (values_named (codes "Content-Length") (head_fields reply shape close)) ≡ Some shape
framing_read reply shape close leaves followed =
    rw (codings_of_head reply shape close leaves, lengths_of_head reply shape close leaves) (framing_told shape followed)

followed : (known : Bool) (version : Version) (n : ℕ) → n < 2 ^ 64 → MayBeFollowed (if known then Length n else open_shape version)
followed true version n fits = fits
followed false V10 n fits = tt
followed false V11 n fits = tt

head_tells : (way : Way) (reply : Reply) (alone : Bool) → is_head_alone reply way.head_only ≡ alone
    → LeavesEnd reply → length reply.body < 2 ^ 64
    → read_framing way.head_only reply.status (head_fields reply (shape_of way reply) way.close) ≡ Some (shape_of way reply)
head_tells way reply true is leaves fits =
    let final : (reply.status / 100 == 1) ≡ false = ne_eqb (reply.status / 100) 1 (λ e. omega (arith, leaves.final)) in
    rw (final, is)
head_tells way reply false is leaves fits =
    let final : (reply.status / 100 == 1) ≡ false = ne_eqb (reply.status / 100) 1 (λ e. omega (arith, leaves.final)) in
    rw (final, is)
    (framing_read reply (if way.known then Length (length reply.body) else open_shape way.version) way.close leaves
    (followed way.known way.version (length reply.body) fits))

pub ends_read_back : EndsReadBack
ends_read_back way date reply leaves fits =
    let own = leaves_dated date reply leaves in
    record {
      told = head_tells way (dated date reply) (is_head_alone reply way.head_only) refl own fits;
      closed = head_closes (dated date reply) (shape_of way reply) way.close own;
    }

no_old_coding : (alone known : Bool) (version : Version) (n : ℕ) → version ≡ V10
    → values_named (codes "Transfer-Encoding") (framing_fields (if alone then Bare else (if known then Length n else open_shape version))) ≡ []
no_old_coding true known version n old = refl
no_old_coding false true version n old = refl
no_old_coding false false V10 n old = refl
no_old_coding false false V11 n old = absurd (cc)

pub old_versions_have_no_coding : OldVersionsHaveNoCoding
old_versions_have_no_coding way date reply leaves old =
    codings_of_head (dated date reply) (shape_of way reply) way.close (leaves_dated date reply leaves)
    ∙ no_old_coding (is_head_alone reply way.head_only) way.known way.version (length reply.body) old

-- ---- heads that stand alone

alone_is : (way : Way) (reply : Reply) → StandsAlone way reply → is_head_alone reply way.head_only ≡ true
alone_is way reply (inl is) = rw is
alone_is way reply (inr (inl is)) = rw (is, or_true_right way.head_only)
alone_is way reply (inr (inr is)) = rw (is, or_true_right (way.head_only || (304 == 204)))

pub heads_stand_alone : HeadsStandAlone
heads_stand_alone bytes way reply leaves stands spells =
    let alone = alone_is way reply stands in
    let shape : shape_of way reply ≡ Bare = rw alone in
    let own = leaves_dated (option_map date_text_of way.stamp) reply leaves in (
      record {
        lengths = rw (lengths_of_head (stamped way reply) (shape_of way reply) way.close own, shape);
        codings = rw (codings_of_head (stamped way reply) (shape_of way reply) way.close own, shape);
      },
      spells.text ∙ (let nothing : spells.rest ≡ [] = subst (λ s. IsWholeBody s reply.body spells.rest) shape spells.follows in
          rw nothing (append-nil (head_of way reply))),
    )

pub faults_leave_end : FaultsLeaveEnd
unfolding trim_ows
faults_leave_end UpgradeNeeded = record { final = omega arith; lengths = refl; codings = refl; closes = refl }
faults_leave_end _ = record { final = omega arith; lengths = refl; codings = refl; closes = refl }
