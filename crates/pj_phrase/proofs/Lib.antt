pub mod ManyLoop
