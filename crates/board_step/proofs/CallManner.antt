-- What each call does keeps to a manner.
use Rattle.board_step.proofs.Basics.{◌≡◌, ℕ, Bool, true, false, not, ◌&&◌, ◌||◌, List, refl, sym, ap, ◌∙◌, arith, Some, None, Option, first_of, Call, Caller, Reply, Shape, TriggerWord, RegistryPart, Routing, nobody, injected, ipi, the_reply, reply, range_reasons, write, assigned, number_of, plan_in_range, plan_of, Manner, shows_there, sets_replied, is_refusal, Keeps, keeps_bind, send_keeps, let_go_keeps, lower_keeps, raise_keeps, inject_keeps, tick_keeps, in_event, resend_keeps, each_keeps}
pub use Rattle.board_step.proofs.CallRules.{replies_in, writes_in, refuses_in}
use Rattle.board_step.proofs.CallRules.{Rules, unless, triggered, assigned_rules, in_range}

-- a manner that lets a call do what it does
pub record Lets (w : Manner) (call : Call) : Type 0 where
  pub replies : w.replies ≡ replies_in call
  pub writes : (not (writes_in call) || w.writes) ≡ true
  pub refuses : (not (refuses_in call) || w.refuses) ≡ true

-- a manner that may do all it can lets every call do so
pub or_true : (t : Bool) → (t || true) ≡ true
or_true t = grind arith

module _ (w : Manner) where
  -- an answer at the end
  pub ends : (r : Reply) → sets_replied r ≡ nobody → is_refusal r ≡ false → Keeps w (reply r)
  ends r sets accepts = (record { sets = sets; accepts = ap (λ t. t && not w.refuses) accepts }, tt)

  in_reply : w.replies ≡ true → (pic : Option _) → shows_there w (the_reply pic) ≡ true
  in_reply there pic = ap (λ t. shows_there (record w { replies = t }) (the_reply pic)) there

  -- its rules
  abbrev keeping : Rules
  keeping = record {
    At = λ i k m. Keeps w m;
    InReply = w.replies ≡ true;
    InEvents = w.replies ≡ false;
    Writes = w.writes ≡ true;
    Refuses = w.refuses ≡ true;
    ends = λ i a. tt;
    more = λ i j k m less h. h;
    looks = λ i k p f h. h;
    puts = λ i k p v rest other h. (ap (λ t. not t || w.writes) other, h);
    writes = λ i k v rest may h. (may, h);
    binds = λ i k l f m h next. keeps_bind w f m h next;
    rings = λ i k counter m h. (refl, h);
    replies = λ i r sets accepts. ends r sets accepts;
    refusals = λ i refusal may. (record { sets = refl; accepts = ap not may }, tt);
    leaves = λ i targets source. let_go_keeps w targets source;
    lowers = λ i targets source. lower_keeps w targets source;
    raises = λ there i cpus targets source. raise_keeps w cpus targets source (λ pic. the_reply pic) (in_reply there);
    injects = λ there i cpus targets source. inject_keeps w cpus targets source (λ pic. the_reply pic) (in_reply there);
    sends = λ there i cpus message. send_keeps w (the_reply None) (in_reply there None) cpus message None;
    ticks = λ there i routing shape. tick_keeps w routing shape (λ pic. the_reply pic) (in_reply there);
    signals = λ there i cpus one targets source gsi. inject_keeps w cpus targets source (λ pic. injected gsi pic) (λ pic. in_event w there (injected gsi pic) refl);
    ipis = λ there i cpus one message from. send_keeps w ipi (in_event w there ipi refl) cpus message from;
    resends = λ there i cpus one pin message. resend_keeps w there cpus pin message;
  }

  module _ (routing : Routing) (shape : Shape) where
    pub write_trigger_keeps : w.replies ≡ true → (trigger : TriggerWord) (counter n : ℕ) → Keeps w (write routing shape (Some trigger) counter n)
    write_trigger_keeps = triggered keeping routing shape 2 (omega arith)

    pub assigned_keeps : w.replies ≡ false → w.writes ≡ true → (registry : RegistryPart) (counts : List ℕ) (trigger gsi : ℕ) (resample : Option ℕ) → Keeps w (assigned routing shape registry counts trigger gsi resample)
    assigned_keeps = assigned_rules keeping routing shape 2 (omega arith)

    pub in_range_keeps : (n : ℕ) (call : Call) → Lets w call → Keeps w (plan_in_range routing shape n call)
    in_range_keeps n call lets = in_range keeping routing shape 2 (omega arith) n call (record {
      replies = λ is. lets.replies ∙ is;
      events = λ is. lets.replies ∙ is;
      writes = λ is. sym (ap (λ t. not t || w.writes) is) ∙ lets.writes;
      refuses = λ is. sym (ap (λ t. not t || w.refuses) is) ∙ lets.refuses;
    }) (λ reads there. record { ended = λ chip vector. each_keeps w there routing shape _; one = λ pin. each_keeps w there routing shape _; cycled = λ pair. each_keeps w there routing shape _ })

    -- a whole call, which may be refused
    pub call_keeps : (caller : Caller) (call : Call) → w.refuses ≡ true → Lets w call → Keeps w (plan_of routing shape caller call)
    call_keeps caller call may lets = unless keeping 2 (first_of (range_reasons shape call)) (plan_in_range routing shape (number_of caller) call) may (in_range_keeps (number_of caller) call lets)
