pub mod factor_logs
